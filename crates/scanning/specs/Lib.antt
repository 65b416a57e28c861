-- The definitions that the contracts of `scanning` cite.
pub mod Sources
pub mod Runs
