pub mod Alike
pub mod Decks
pub mod Counts
pub mod Sendings
pub mod Takings
pub mod Askings
