pub mod State
pub mod Pending
pub mod Timer
pub mod Turn
pub mod Row
pub mod Means
pub mod Said
pub mod Promises
