pub mod Accepting
pub mod Completeness
pub mod Outcomes
