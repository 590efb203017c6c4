pub mod Powers
pub mod FourBytes
