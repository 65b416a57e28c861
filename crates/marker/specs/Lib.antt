pub mod Verdict
pub mod Marked
pub mod Examples
pub mod Traps
pub mod Tables
