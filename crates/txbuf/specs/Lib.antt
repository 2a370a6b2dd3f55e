pub mod Record
pub mod Push
pub mod Flush
pub mod Means
pub mod Edges
pub mod Answers
pub mod Outcomes
pub mod Promises
