pub mod Hex
pub mod Part
pub mod Print
pub mod Promises
pub mod Read
