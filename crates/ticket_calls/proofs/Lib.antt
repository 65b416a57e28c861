-- The laws of `ticket_calls`, each file over those above it.
pub mod Stores
pub mod PartyLaws
pub mod ChangeLaws
pub mod RefusalLaws
pub mod PairChanges
pub mod TicketChanges
pub mod Fronts
pub mod InFront
