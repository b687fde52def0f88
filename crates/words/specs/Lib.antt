pub mod Lists
pub mod Switches
pub mod Targets
pub mod Functions
pub mod Speeds
pub mod Instructions
pub mod Packets
