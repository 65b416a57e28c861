-- The definitions that the contracts of `checks` cite.
pub mod Refusals
pub mod Hours
pub mod TicketFaults
pub mod SettlementFaults
