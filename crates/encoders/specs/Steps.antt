-- Encoders over a list of code points: turns, and what they put.
pub use Rattle.decoder_core.specs.EncoderSteps.{Turn, Table, PutsItself, Put, reference, behind, answered, taken, onward, encoded_from}
pub use Rattle.decoder_core.specs.{EncoderOutput.IsFrom, declared.fault.Unencodable.Unencodable}
pub use Rattle.decoder_core.specs.declared.fault.FromFault.{FromFault, TheVariants.Unencodable as unencodable_from, TheVariants.OutOfMemory as no_memory_from}
pub use Rattle.iso2022jp.specs.{Iso2022JpEncoder.escape_of, Iso2022JpEncoder.ended, Iso2022JpEncoder.encoded_iso, JisPointer.jis_pointer}
