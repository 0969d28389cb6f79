-- Code points that have equally many bytes of UTF-8.
use Rattle.std.specs.Prelude.{◌≡◌, ℕ, ◌+◌, ◌*◌, ◌<◌, List, length, get_or}
use Rattle.std.specs.Str.{continuation_len}

-- n in a row, from byte `at` on, begin as code points of `len` bytes do
abbrev pub AreAlike : List ℕ → ℕ → ℕ → ℕ → Type 0
AreAlike text at len n = (k : ℕ) → k < n → (at + k * len < length text) × (len ≡ continuation_len (get_or text (at + k * len) 0) + 1)
