pub mod Records
pub mod Edits
pub mod Fields
pub mod Held
