pub mod Chances
pub mod Late
pub mod Limits
