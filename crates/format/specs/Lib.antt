pub mod Reading
pub mod Writing
pub mod Refusing
pub mod Laws
pub mod Examples
