-- The laws of `window_lists`.
pub mod WindowLaws
pub mod WholeWeek
