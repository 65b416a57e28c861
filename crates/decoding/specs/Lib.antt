-- The definitions that the functions of `decoding` cite.
pub mod Numbered
