pub mod Turns
pub mod Mixing
