pub mod Secrets
pub mod Honest
pub mod States
pub mod Mapping
