pub mod Comparison
pub mod Posting
pub mod Commitments
pub mod Drawing
pub mod Mapping
