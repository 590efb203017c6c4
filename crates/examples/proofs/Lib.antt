pub mod Ciphertexts
pub mod Comparators
