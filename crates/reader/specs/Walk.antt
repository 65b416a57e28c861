-- What a document comes to: the outcome of its walk, as `documents` has it, for whoever cites the contracts of `reader`.
pub use Rattle.documents.specs.Walk.{Outcome, read_head}
unfoldable pub use Rattle.documents.specs.Walk.{walk, form}
