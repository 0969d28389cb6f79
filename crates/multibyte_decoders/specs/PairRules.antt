-- The encodings of single bytes and pairs, each with its rule.
pub mod Big5
pub mod EucKr
pub mod ShiftJis
use Rattle.index_loader.specs.{Index.Loaded, Index.code_point_of, declared.kind.PairEncoding.PairEncoding}
use Rattle.index_loader.specs.declared.kind.PairEncoding.TheVariants as name
use Rattle.decoder_core.specs.Queue.{Table}
use Rattle.multibyte_decoders.specs.declared.pair_decoders.PairDecoders.{PairDecoders}
use Rattle.multibyte_decoders.specs.declared.pair_decoders.PairDecoders.TheVariants as by
use Rattle.multibyte_decoders.specs.{declared.pairs.PairState.PairState, Pairs.PairRule, Pairs.pair_decoder}

abbrev pub rule_of : PairEncoding → PairRule
rule_of name.ShiftJis = ShiftJis.shift_jis
rule_of name.EucKr = EucKr.euc_kr
rule_of name.Big5 = Big5.big5

-- an encoding's decoder over its index
abbrev pub over : PairEncoding → Loaded → PairDecoders
over name.ShiftJis = by.ShiftJis
over name.EucKr = by.EucKr
over name.Big5 = by.Big5

-- the encoding of a decoder, and its index
pub record Source : Type 0 where
  pub encoding : PairEncoding
  pub index : Loaded

abbrev pub source : PairDecoders → Source
source (by.ShiftJis index) = record { encoding = name.ShiftJis; index = index }
source (by.EucKr index) = record { encoding = name.EucKr; index = index }
source (by.Big5 index) = record { encoding = name.Big5; index = index }

-- what a decoder does
abbrev pub decoder_of : PairDecoders → Table PairState
decoder_of d = pair_decoder (rule_of (source d).encoding) (code_point_of (source d).index)
