pub mod Tests
pub mod Remainders
pub mod Squaring
pub mod Modular
pub mod Laws
pub mod Residues
pub mod ResidueLaws
