-- The laws of `week`.
pub mod WeekLaws
