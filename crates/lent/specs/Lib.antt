pub mod Lent
pub mod Promises
pub mod Demand3
