-- The laws of `decoding`.
pub mod ByteLaws
pub mod Decoding
pub mod Numbers
