pub mod Among
pub mod Checks
pub mod Conversions
pub mod Counting
pub mod Finding
pub mod Gathering
pub mod Heads
pub mod Streams
