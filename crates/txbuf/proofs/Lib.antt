pub mod RecordLaws
pub mod AnswerLaws
pub mod RingLaws
pub mod DoneLaws
pub mod PushLaws
pub mod FlushLaws
pub mod Promises
pub mod Pinned
