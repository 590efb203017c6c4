pub mod Knowledge
pub mod Comparing
pub mod Answering
pub mod Drilling
pub mod Honest
