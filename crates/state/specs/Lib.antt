pub mod Bits
pub mod Scales
pub mod Speeds
pub mod Groups
pub mod Kept
pub mod Packing
pub mod Starting
