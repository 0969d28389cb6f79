-- Runs of bytes of a class at the front.
use Rattle.std.specs.{Prelude.ℕ, Prelude.Bool, Prelude.not, Prelude.◌&&◌, Prelude.◌||◌, Prelude.◌==◌, Prelude.nat_lt, Prelude.List, List.prefix_len}

-- an ASCII byte
abbrev pub is_ascii : ℕ → Bool
is_ascii b = nat_lt b 0x80

-- the length of the longest prefix of ASCII bytes
abbrev pub ascii_len : List ℕ → ℕ
ascii_len bytes = prefix_len (λ b. nat_lt b 0x80) bytes

-- an ASCII byte that is neither a shift, SO or SI, nor ESC: ISO-2022-JP decodes it to itself in its state ASCII (Encoding Standard, "ISO-2022-JP decoder")
abbrev pub is_plain : ℕ → Bool
is_plain b = nat_lt b 0x80 && not (b == 0x0E || b == 0x0F || b == 0x1B)

-- the length of the longest prefix of such bytes
abbrev pub plain_len : List ℕ → ℕ
plain_len bytes = prefix_len is_plain bytes
