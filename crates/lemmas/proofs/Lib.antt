pub mod Bools
pub mod Lists
pub mod Recursion
pub mod Texts
