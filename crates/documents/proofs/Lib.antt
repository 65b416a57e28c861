-- The laws of documents, each file over those above it.
pub mod WalkLaws
pub mod Undoing
pub mod TicketLaws
pub mod PairLaws
pub mod SettlementLaws
pub mod LayoutLaws
