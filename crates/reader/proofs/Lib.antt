-- The laws of `reader`, each file over those above it. Other crates cite `Telling` and `Facts`.
pub mod Telling
pub mod Writing
pub mod Filling
pub mod Packing
pub mod Facts
pub mod TicketNumbers
pub mod Examples
