-- The laws of `windows`, each file over those above it.
pub mod TermLaws
pub mod Narrowing
pub mod PairNumbers
pub mod Answering
pub mod NewTickets
pub mod WholeWeek
