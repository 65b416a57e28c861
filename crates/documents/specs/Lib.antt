-- The two documents as forms of one walk, each file over those above it. The laws about them stand in proofs/.
pub mod Walk
pub mod State
pub mod Ticket
pub mod Settlement
pub mod Layout
pub mod Bounds
