pub mod Powers
pub mod Lines
pub mod Lists
pub mod Sampling
pub mod Soundness
pub mod Examples
