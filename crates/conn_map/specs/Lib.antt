pub mod Key
pub mod Table
pub mod Order
pub mod Distinct
pub mod Edges
pub mod Promises
