-- What the texts of this project are made of, each file over those above it.
pub mod Decimal
pub mod Numeral
pub mod Lines
pub mod Writing
pub mod Texts
