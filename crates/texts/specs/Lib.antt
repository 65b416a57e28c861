-- The definitions that the contracts of `texts` cite.
pub mod MarkLine
pub mod Meanings
