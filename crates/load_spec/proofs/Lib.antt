pub mod StateLaws
pub mod DrawLaws
pub mod WalkLaws
pub mod CallLaws
pub mod Cases
