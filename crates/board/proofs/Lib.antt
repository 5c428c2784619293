pub mod Lending
pub mod Lists
pub mod Closings
pub mod Bounds
pub mod Holding
pub mod Fitting
