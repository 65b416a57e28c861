pub mod Certified
pub mod Rows
