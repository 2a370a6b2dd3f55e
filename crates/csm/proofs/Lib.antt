pub mod StateLaws
pub mod TurnLaws
pub mod MeansLaws
pub mod FirstLaws
pub mod SaidLaws
pub mod Promises
pub mod Pinned
