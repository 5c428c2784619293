pub mod Calling
pub mod Agreement
