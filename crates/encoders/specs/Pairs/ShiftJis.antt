-- Shift_JIS (Encoding Standard, "Shift_JIS encoder" and "index Shift_JIS pointer").
use Rattle.std.specs.Prelude.{ℕ, ◌+◌, ◌-◌, ◌/◌, ◌%◌, ◌==◌, not, nat_lt, List, filter, Option, Some, option_map, if◌then◌else◌}
use Rattle.decoder_core.specs.Forms.{within}
use Rattle.index_loader.specs.{Index.Loaded, Index.pointers_of, Pairs.least}
use Rattle.encoders.specs.Stateless.{ascii_or, one, two}

-- pointers 8272 to 8835 are duplicates of rows that the encoder takes from elsewhere
abbrev pub shift_jis_pointer : Loaded → ℕ → Option ℕ
shift_jis_pointer index c = least (filter (λ p. not (within 8272 8835 p)) (pointers_of index c))

-- the minus sign is taken as the full-width one, also in EUC-JP
abbrev pub minus_folded : ℕ → ℕ
minus_folded c = if c == 0x2212 then 0xFF0D else c

abbrev pub shift_jis_pair : ℕ → List ℕ
shift_jis_pair p =
    two (p / 188 + (if nat_lt (p / 188) 0x1F then 0x81 else 0xC1)) (p % 188 + (if nat_lt (p % 188) 0x3F then 0x40 else 0x41))

abbrev pub shift_jis_bytes : Loaded → ℕ → Option (List ℕ)
shift_jis_bytes index c =
    ascii_or c
    (if c == 0x80 then Some (one 0x80)
    else if c == 0xA5 then Some (one 0x5C)
    else if c == 0x203E then Some (one 0x7E)
    else if within 0xFF61 0xFF9F c then Some (one (c - 0xFF61 + 0xA1))
    else option_map shift_jis_pair (shift_jis_pointer index (minus_folded c)))
