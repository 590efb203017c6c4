pub mod Witnesses
pub mod Refusals
pub mod Samples
pub mod Examined
