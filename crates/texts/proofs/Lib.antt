pub mod LineWriting
pub mod MarkLineLaws
pub mod MeaningLaws
pub mod Examples
