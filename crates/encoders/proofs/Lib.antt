pub mod AsciiRuns
pub mod Bytewise
pub mod Choosing
pub mod Joining
pub mod Utf16Forms
