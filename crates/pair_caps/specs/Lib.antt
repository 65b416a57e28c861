-- The definitions that the contracts of `pair_caps` cite.
pub mod PairCaps
