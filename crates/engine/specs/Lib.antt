pub mod Open
pub mod States
pub mod Closings
pub mod Answers
pub mod Machine
pub mod Outcomes
pub mod Promises
pub mod Demand3
