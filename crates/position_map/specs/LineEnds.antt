-- Line ends that a text begins with, and the last one in it.
use Rattle.std.specs.Prelude.{◌≡◌, ℕ, ◌+◌, ◌<◌, ◌==◌, true, false, List, [], ◌∷◌, ◌++◌, length, drop, slice_index, if◌then◌else◌}
use Rattle.lane_ascii.specs.Marks.{cr, lf, is_mark, marks}
use Rattle.position_map.specs.declared.cuts.Ending.{Ending, TheVariants.Two, TheVariants.One, TheVariants.Open}

-- what is known of the line end that a text begins with
abbrev pub ending_of : List ℕ → Ending
ending_of [] = One
ending_of (c ∷ []) = if c == cr then Open else One
ending_of (c ∷ d ∷ cs) = if c == cr then (if d == lf then Two else One) else One

-- the index of the last CR or LF
pub record IsLastEnd (bytes : List ℕ) (at : ℕ) : Type 0 where
  pub within : at < length bytes
  pub is : is_mark false (slice_index bytes at) ≡ true
  pub none : marks false (drop (at + 1) bytes) ≡ 0

-- what follows the last CR or LF
pub record IsLastLine (cs line : List ℕ) : Type 0 where
  pub front : List ℕ
  pub c : ℕ
  pub split : cs ≡ front ++ c ∷ line
  pub is : is_mark false c ≡ true
  pub none : marks false line ≡ 0
