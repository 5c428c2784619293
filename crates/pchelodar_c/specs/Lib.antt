pub mod Slices
pub mod Promises
pub mod Demand3
