-- The laws of the numbers that C gets: they fit, and nothing is lost in them.
pub mod ReplyLaws
pub mod MarketLaws
pub mod AccountLaws
pub mod WindowLaws
pub mod SettlementLaws
pub mod TextLaws
