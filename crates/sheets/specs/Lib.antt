-- The definitions that the contracts of `sheets` cite, each file over those above it.
pub mod Page
pub mod Sheet
pub mod Squares
pub mod Sheeted
pub mod Printing
