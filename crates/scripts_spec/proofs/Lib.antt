pub mod FateLaws
pub mod CountLaws
pub mod CallLaws
pub mod SuccessorLaws
