pub mod LentList
pub mod Laid
