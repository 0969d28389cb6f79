-- The pointers of index jis0208 that a pair of the JIS X 0208 code space can name.
use Rattle.std.specs.Prelude.{ℕ, nat_le, Option, Some, None, option_and_then, if◌then◌else◌}
use Rattle.index_loader.specs.Index.{Loaded, pointer_of}

-- a pointer of the 94 rows of 94; those after it are only in Shift_JIS
abbrev pub in_94 : ℕ → Option ℕ
in_94 p = if nat_le p 8835 then Some p else None

-- the smallest pointer of a code point, if it is one of these
abbrev pub jis_pointer : Loaded → ℕ → Option ℕ
jis_pointer index c = option_and_then in_94 (pointer_of index c)
