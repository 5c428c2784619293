pub mod Landing
pub mod Slices
pub mod Scanning
pub mod Digits
pub mod Reading
pub mod Keeping
pub mod Copies
