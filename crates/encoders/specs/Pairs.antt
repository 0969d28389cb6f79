-- The encoders of single bytes and pairs, each over its index.
pub mod Big5
pub mod EucKr
pub mod ShiftJis
use Rattle.std.specs.Prelude.{ℕ, List, Option}
use Rattle.index_loader.specs.declared.kind.PairEncoding.{PairEncoding}
use Rattle.index_loader.specs.declared.kind.PairEncoding.TheVariants as name
use Rattle.index_loader.specs.Index.{Loaded}

-- what an encoder writes: the bytes of a code point
pub record PairWriting : Type 0 where
  pub bytes : Loaded → ℕ → Option (List ℕ)

abbrev pub writing_of : PairEncoding → PairWriting
writing_of name.ShiftJis = record { bytes = ShiftJis.shift_jis_bytes }
writing_of name.EucKr = record { bytes = EucKr.euc_kr_bytes }
writing_of name.Big5 = record { bytes = Big5.big5_bytes }
