pub mod Memories
pub mod Promises
