-- The definitions that the contracts of `desk_calls` cite, each file over those above it.
pub mod Words
pub mod Numbers
pub mod Calls
