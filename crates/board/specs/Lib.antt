pub mod Aggregates
pub mod Tables
pub mod Lending
pub mod Ledgers
pub mod Boards
