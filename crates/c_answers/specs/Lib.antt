-- The definitions that the contracts of `c_answers` cite.
pub mod Marks
pub mod Accounts
