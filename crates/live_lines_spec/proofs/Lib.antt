pub mod WordLaws
pub mod AnswerLaws
pub mod EndingLaws
pub mod RefusedLaws
pub mod Cases
