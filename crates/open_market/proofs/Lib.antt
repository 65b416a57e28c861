-- The laws of `open_market`, each file over those above it.
pub mod CallLaws
pub mod MarketLaws
pub mod Histories
