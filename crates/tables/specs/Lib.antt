-- The definitions that the contracts of `tables` cite. The laws about them stand in proofs/.
pub mod View
