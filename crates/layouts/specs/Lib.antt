-- The definitions that the contracts of `layouts` cite, each file over those above it.
pub mod Text
pub mod Squeezed
pub mod Reading
pub mod Answer
