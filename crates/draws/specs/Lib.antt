-- The definitions that the contracts of `draws` cite, each file over those above it.
pub mod Generator
pub mod Drawn
