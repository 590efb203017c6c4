pub mod Table
pub mod Text
