pub mod Documents
pub mod Hashed
