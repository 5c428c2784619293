pub mod Listed
pub mod Rings
pub mod Stores
pub mod Trimming
pub mod Closing
pub mod Laps
