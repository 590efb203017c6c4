pub mod Plaintexts
