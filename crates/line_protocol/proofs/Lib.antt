pub mod ChangeLists
mod Decimals
mod FlatLookups
mod FlatTexts
mod FlatTokens
mod Listing
mod MemoryReplies
pub mod Merging
mod PlainRuns
mod PlainText
mod Prelude
mod SentLines
mod StepReplies
