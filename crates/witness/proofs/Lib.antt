mod Chains
mod Draws
pub mod Gathering
pub mod Judging
