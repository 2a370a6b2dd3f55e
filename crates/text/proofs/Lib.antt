pub mod Edges
pub mod HexLaws
pub mod Promises
pub mod Pinned
pub mod Written
