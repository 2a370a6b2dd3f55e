pub mod Edges
pub mod OrderLaws
pub mod DistinctLaws
pub mod SortLaws
pub mod TableLaws
pub mod Promises
pub mod Pinned
