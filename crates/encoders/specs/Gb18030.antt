-- gb18030 and GBK (Encoding Standard, "gb18030 encoder"), which have one encoder: its flag "is GBK" is set for GBK. The step of the
-- exceptions is this project's own;
-- without their file there are none.
use Rattle.std.specs.Prelude.{ℕ, ◌+◌, ◌/◌, ◌%◌, ◌==◌, ◌&&◌, nat_lt, Bool, true, false, List, [], ◌∷◌, Option, Some, None, option_map, if◌then◌else◌}
use Rattle.enc_names.specs.declared.encoding.Encoding.{Encoding, TheVariants.Gbk}
use Rattle.index_loader.specs.{Exceptions.ExceptionTable, Exceptions.exception_of, Index.Loaded, Index.pointer_of}
use Rattle.encoders.specs.Stateless.{ascii_or, one, two}

abbrev pub gb18030_pair : ℕ → List ℕ
gb18030_pair p = two (p / 190 + 0x81) (p % 190 + (if nat_lt (p % 190) 0x3F then 0x40 else 0x41))

abbrev pub gb18030_four : ℕ → List ℕ
gb18030_four p = (p / 12600 + 0x81) ∷ (p % 12600 / 1260 + 0x30) ∷ (p % 1260 / 10 + 0x81) ∷ (p % 10 + 0x30) ∷ []

-- the encoder: its flag, its exceptions and its indexes
pub record Gb18030 : Type 0 where
  pub gbk : Bool
  pub exceptions : ExceptionTable
  pub index : Loaded
  pub ranges : Loaded

-- the flag of an encoding
abbrev pub is_gbk : Encoding → Bool
is_gbk Gbk = true
is_gbk encoding = false

-- two bytes by the index; otherwise four by the ranges, which GBK doesn't have
abbrev pub pair_or_four : Bool → Loaded → ℕ → Option ℕ → Option (List ℕ)
pair_or_four gbk ranges c (Some p) = Some (gb18030_pair p)
pair_or_four gbk ranges c None = if gbk then None else option_map gb18030_four (pointer_of ranges c)

-- the bytes of an exception, or else these
abbrev pub excepted_or : Option (List ℕ) → Option (List ℕ) → Option (List ℕ)
excepted_or (Some bytes) other = Some bytes
excepted_or None other = other

abbrev pub gb18030_bytes : Bool → ExceptionTable → Loaded → Loaded → ℕ → Option (List ℕ)
gb18030_bytes gbk exceptions index ranges c =
    ascii_or c
    (if c == 0xE5E5 then None
    else if gbk && c == 0x20AC then Some (one 0x80)
    else excepted_or (exception_of exceptions c) (pair_or_four gbk ranges c (pointer_of index c)))
