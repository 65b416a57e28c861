-- The laws of what C gets of a settlement: it fits, and nothing is lost in it.
pub mod MarkLaws
pub mod AccountLaws
