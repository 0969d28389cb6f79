pub mod Advances
pub mod Codes
pub mod Parts
pub mod Reaching
pub mod Sessions
