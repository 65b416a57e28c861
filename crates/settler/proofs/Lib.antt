pub mod ListLaws
pub mod SettlementNumbers
pub mod Answering
pub mod BestSettled
pub mod WrongSettlings
