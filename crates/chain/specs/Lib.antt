pub mod Listing
pub mod Stages
pub mod Rows
