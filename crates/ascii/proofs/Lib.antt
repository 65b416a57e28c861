pub mod PageWriting
pub mod Spelling
pub mod NumeralLaws
pub mod LineLaws
pub mod Examples
