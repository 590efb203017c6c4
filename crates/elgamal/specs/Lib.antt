pub mod Ciphertexts
pub mod Mapping
