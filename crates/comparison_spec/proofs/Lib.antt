pub mod Numbers
pub mod RefusedLaws
pub mod ComparisonLaws
pub mod OutcomeLaws
pub mod CallLaws
pub mod AnswerLaws
pub mod NumberLaws
pub mod Recoded
