pub mod Findings
pub mod Rule
pub mod Meaning
pub mod Formula
