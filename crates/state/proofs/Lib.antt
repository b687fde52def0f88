pub mod Bitwise
pub mod Tables
pub mod Lows
pub mod Eights
