pub mod Editing
pub mod Giving
pub mod Laying
pub mod Leaving
pub mod Lists
pub mod Plain
pub mod Rows
pub mod Steps
