-- The definitions that the contracts of `open_market` cite, each file over the one above it. What calls do to a ticket's list stands in
-- `ticket_calls`. The laws about them stand in proofs/.
pub mod Lists
pub mod Markets
