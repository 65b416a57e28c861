pub mod WordLaws
pub mod NumberLaws
pub mod Examples
