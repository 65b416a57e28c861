-- The definitions that the contract of `windows` cites, and those of its private functions. The laws about them stand in proofs/.
pub mod Narrowed
pub mod Held
pub mod NewTickets
