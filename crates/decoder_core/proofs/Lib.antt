mod Prelude
pub mod Running
pub mod Driving
pub mod Showing
pub mod Collecting
pub mod Lifting
pub mod Moving
pub mod Fronts
pub mod PlainRuns
pub mod Turning
pub mod Utf8Runs
pub mod ItemWidths
pub mod Utf16Ascii
pub mod Utf16Runs
pub mod Encoding
