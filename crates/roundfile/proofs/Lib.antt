pub mod Numbers
pub mod Parses
pub mod Writes
pub mod Laws
pub mod Rewrites
pub mod Files
pub mod Wholes
