-- Bytes cut at their line feeds.
use Rattle.std.specs.Prelude.{ℕ, ◌==◌, List, [], ◌∷◌, ◌++◌, Bool, true, false, if◌then◌else◌}

-- the complete lines, without their line feeds, where some bytes of the first have come before
abbrev pub complete : List ℕ → List ℕ → List (List ℕ)
complete line [] = []
complete line (b ∷ bs) = if b == 10 then line ∷ complete [] bs else complete (line ++ b ∷ []) bs

-- the partial line after the last line feed
abbrev pub unfinished : List ℕ → List ℕ → List ℕ
unfinished line [] = line
unfinished line (b ∷ bs) = if b == 10 then unfinished [] bs else unfinished (line ++ b ∷ []) bs

abbrev pub has_end : List ℕ → Bool
has_end [] = false
has_end (b ∷ bs) = if b == 10 then true else has_end bs

-- the bytes before the first line feed
abbrev pub before_end : List ℕ → List ℕ
before_end [] = []
before_end (b ∷ bs) = if b == 10 then [] else b ∷ before_end bs
