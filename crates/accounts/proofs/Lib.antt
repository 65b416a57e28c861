pub mod ListLaws
pub mod EarningLaws
pub mod Accounting
pub mod AccountWorth
