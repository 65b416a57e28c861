-- The definitions that the contracts of `market_lists` cite.
pub mod Lent
