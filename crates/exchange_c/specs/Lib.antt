-- The definitions that the contracts of `exchange_c` cite: the numbers that C gets, and what those that it gives stand for.
pub mod Replies
pub mod Settlements
pub mod Texts
