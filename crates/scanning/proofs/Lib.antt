-- The laws of `scanning`.
pub mod Running
