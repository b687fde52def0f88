pub mod Causes
pub mod Places
