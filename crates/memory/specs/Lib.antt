pub mod Bounds
pub mod Cells
pub mod Places
pub mod Strips
pub mod Laws
