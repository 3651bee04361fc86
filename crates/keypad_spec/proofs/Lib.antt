pub mod Numbers
pub mod MatchLaws
pub mod RefusalLaws
pub mod RuleLaws
pub mod TellLaws
pub mod CallLaws
pub mod NumberLaws
