pub mod Edits
pub mod Levels
pub mod Reaching
pub mod Refilling
pub mod Searching
pub mod Shapes
pub mod Totals
