pub mod Rings
pub mod Extremes
pub mod Sums
