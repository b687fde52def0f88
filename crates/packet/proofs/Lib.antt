pub mod Cvs
pub mod Parities
