pub mod Exponents
pub mod Operations
pub mod Codes
