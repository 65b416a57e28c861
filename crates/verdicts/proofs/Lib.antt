pub mod Spares
pub mod Rows
pub mod CheapestSpares
