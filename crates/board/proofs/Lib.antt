pub mod Performings
pub mod Joinings
pub mod Scripts
pub mod Beside
