-- The laws of `checks`.
pub mod FaultLaws
pub mod HourLaws
pub mod RefusalLaws
