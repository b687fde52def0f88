pub mod Windowed
pub mod Clearing
pub mod Counts
pub mod Turns
pub mod Sames
pub mod Nexts
