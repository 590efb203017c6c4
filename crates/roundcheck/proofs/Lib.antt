mod Reading
mod Judging
pub mod Failing
pub mod Openings
