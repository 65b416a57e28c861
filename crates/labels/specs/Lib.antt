-- The definitions that the contracts of `labels` cite, each file over those above it.
pub mod Spots
pub mod Words
