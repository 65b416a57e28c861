pub mod Listing
pub mod SettledList
pub mod Settled
pub mod Numbers
