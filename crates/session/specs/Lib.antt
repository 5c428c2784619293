pub mod Meaning
pub mod Stream
pub mod Cases
pub mod Promises
pub mod Whole
