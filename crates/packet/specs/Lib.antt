pub mod Parity
pub mod Wires
pub mod Groups
