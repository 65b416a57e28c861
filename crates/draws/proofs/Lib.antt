-- The laws of drawn tickets: runs of stores make the list, and the list passes the ticket's checks.
pub mod Storing
pub mod Passing
