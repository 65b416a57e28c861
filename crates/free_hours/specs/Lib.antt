-- The definitions that the contracts of `free_hours` cite.
pub mod FreeHours
