pub mod Fields
pub mod Numbers
pub mod Lines
pub mod Kept
