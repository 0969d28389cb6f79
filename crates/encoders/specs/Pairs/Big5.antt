-- Big5 (Encoding Standard, "Big5 encoder" and "index Big5 pointer").
use Rattle.std.specs.Prelude.{ℕ, ◌+◌, ◌/◌, ◌%◌, ◌==◌, ◌||◌, nat_le, nat_lt, Bool, List, filter, Option, option_map, if◌then◌else◌}
use Rattle.index_loader.specs.{Index.Loaded, Index.pointers_of, Pairs.least, Pairs.greatest}
use Rattle.encoders.specs.Stateless.{ascii_or, two}

-- the code points whose last pointer is taken
abbrev pub takes_last : ℕ → Bool
takes_last c = c == 0x2550 || (c == 0x255E || (c == 0x2561 || (c == 0x256A || (c == 0x5341 || c == 0x5345))))

-- pointers below (0xA1 - 0x81) * 157 are the Hong Kong supplement's, which no encoder writes
abbrev pub big5_pointers : Loaded → ℕ → List ℕ
big5_pointers index c = filter (nat_le 5024) (pointers_of index c)

abbrev pub big5_pointer : Loaded → ℕ → Option ℕ
big5_pointer index c = if takes_last c then greatest (big5_pointers index c) else least (big5_pointers index c)

abbrev pub big5_pair : ℕ → List ℕ
big5_pair p = two (p / 157 + 0x81) (p % 157 + (if nat_lt (p % 157) 0x3F then 0x40 else 0x62))

abbrev pub big5_bytes : Loaded → ℕ → Option (List ℕ)
big5_bytes index c = ascii_or c (option_map big5_pair (big5_pointer index c))
