pub mod Composing
pub mod Memories
