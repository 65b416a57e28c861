-- The definitions that the contracts of `ticket_calls` cite. The laws about them stand in proofs/.
pub mod Calls
