-- The laws of `euros`.
pub mod Places
