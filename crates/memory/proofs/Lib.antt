pub mod PlaceCells
pub mod Lying
