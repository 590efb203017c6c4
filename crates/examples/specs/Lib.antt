pub mod Small
pub mod Ciphertexts
pub mod Comparators
pub mod Plans
pub mod Drills
pub mod Examples
