pub mod Filling
pub mod Meaning
