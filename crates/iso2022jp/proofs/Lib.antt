pub mod Escaping
pub mod OutputStates
pub mod PlainRuns
pub mod Restoring
