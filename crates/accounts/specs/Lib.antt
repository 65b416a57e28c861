pub mod Accounted
pub mod Listing
pub mod Earnings
