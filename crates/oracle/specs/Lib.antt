pub mod Loads
pub mod LoadLaws
