pub mod Contents
pub mod Reading
pub mod Handing
pub mod Summing
pub mod Tiling
pub mod Walking
pub mod Laws
