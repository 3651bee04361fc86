pub mod SheetLaws
pub mod MeaningLaws
pub mod ByteLaws
pub mod CallLaws
pub mod PairLaws
pub mod Theorem
pub mod Uses
pub mod Cases
