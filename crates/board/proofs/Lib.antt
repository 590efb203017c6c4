pub mod Filling
pub mod Meanings
pub mod Stepping
pub mod Calling
pub mod Serving
pub mod Turning
