-- The definitions that the contracts of `lists` cite, each file over those above it.
pub mod NumberText
pub mod Listing
