-- The definitions that the contracts of `places` cite.
pub mod Places
