pub mod Ending
pub mod Places
pub mod Replaying
pub mod Serving
