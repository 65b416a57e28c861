-- The definitions that the contracts of `week` cite. The laws about them stand in proofs/.
pub mod Week
