pub mod Json
pub mod LabelAnswers
pub mod LabelEntries
pub mod LabelFile
pub mod Labels
pub mod Names
pub mod Settings
