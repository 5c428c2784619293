pub mod Signs
pub mod States
pub mod Copies
