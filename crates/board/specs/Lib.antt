pub mod Slots
pub mod Joins
pub mod Steps
pub mod Strips
