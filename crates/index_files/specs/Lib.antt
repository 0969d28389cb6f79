pub mod Ending
pub mod Names
pub mod Needed
