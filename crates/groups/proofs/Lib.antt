-- The laws of `groups`, each file over those above it. Other crates cite `Ends` and `GroupLaws`.
pub mod Ends
pub mod GroupLaws
pub mod Reading
