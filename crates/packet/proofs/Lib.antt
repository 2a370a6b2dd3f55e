pub mod AnswerLaws
pub mod LeLaws
pub mod HeaderLaws
pub mod FlagLaws
pub mod Callers
pub mod Promises
pub mod Pinned
