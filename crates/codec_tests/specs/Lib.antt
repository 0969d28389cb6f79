pub mod DecoderEntries
pub mod EncoderEntries
pub mod PairExamples
