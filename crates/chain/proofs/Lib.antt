pub mod Routing
pub mod Examples
