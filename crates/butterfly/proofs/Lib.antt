pub mod Finding
pub mod Routing
pub mod Examples
