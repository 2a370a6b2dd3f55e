pub mod LookLaws
pub mod RawLaws
pub mod ReceiveLaws
pub mod JudgeLaws
pub mod SendLaws
pub mod NotifyLaws
pub mod OfferLaws
pub mod Pinned
