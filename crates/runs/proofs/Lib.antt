pub mod Edges
pub mod RunLaws
pub mod Promises
