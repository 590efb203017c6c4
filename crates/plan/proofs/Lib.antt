pub mod Running
pub mod Onto
pub mod Marks
pub mod Totals
pub mod Places
