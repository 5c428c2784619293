pub mod Balance
pub mod Round
pub mod Sizes
pub mod Unsigned
pub mod Widened
