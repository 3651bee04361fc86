pub mod SplitLaws
pub mod ProgramLaws
pub mod OpeningLaws
pub mod BackToBackLaws
pub mod Cases
