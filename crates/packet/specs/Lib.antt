pub mod Le
pub mod Uapi
pub mod Header
pub mod Edges
pub mod Promises
