pub mod EncoderExamples
pub mod Exact
pub mod Iso2022Jp
pub mod Iso2022JpEncoder
pub mod Iso2022JpLaws
pub mod JisPointer
