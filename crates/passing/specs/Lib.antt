-- The definitions that the functions of `passing` cite.
pub mod Passes
