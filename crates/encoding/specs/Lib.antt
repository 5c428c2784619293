pub mod Signed
pub mod Written
pub mod Cases
