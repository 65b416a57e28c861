pub mod WritingLaws
pub mod SqueezingLaws
pub mod LineLaws
pub mod ReadingLaws
pub mod WalkLaws
pub mod AnswerLaws
pub mod Tidy
pub mod Undoing
