pub mod Equations
pub mod Judgement
pub mod Drawing
pub mod Holding
pub mod Mapping
