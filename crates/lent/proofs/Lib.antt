pub mod Listing
pub mod Lending
pub mod Agreement
