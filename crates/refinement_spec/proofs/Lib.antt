pub mod PairLaws
pub mod RefinementLaws
