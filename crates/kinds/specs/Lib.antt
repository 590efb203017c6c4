pub mod Kinds
pub mod Known
