pub mod SamePoint
pub mod Judging
pub mod Exactness
