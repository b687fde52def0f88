pub mod Kinds
pub mod Windows
pub mod Hearers
pub mod Banks
pub mod Opened
pub mod Slots
