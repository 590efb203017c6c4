pub mod Stages
pub mod States
pub mod Calls
pub mod Steps
pub mod Rounds
pub mod Serving
