pub mod Held
pub mod Mobiles
