pub mod Texts
pub mod Events
pub mod Runs
pub mod Checks
pub mod Finishing
