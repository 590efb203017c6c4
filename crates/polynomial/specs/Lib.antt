pub mod Product
pub mod Tables
pub mod Linear
pub mod Polynomials
pub mod Laws
