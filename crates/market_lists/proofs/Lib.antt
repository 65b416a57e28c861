-- The laws of `market_lists`.
pub mod LentLaws
