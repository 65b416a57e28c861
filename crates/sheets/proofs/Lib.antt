pub mod PairLaws
pub mod SheetLaws
pub mod PrintLaws
pub mod Examples
