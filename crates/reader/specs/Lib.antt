-- The definitions that the contracts of `reader` cite, each file over those above it. The laws about them stand in proofs/.
pub mod Walk
pub mod Values
pub mod Answer
pub mod Steps
