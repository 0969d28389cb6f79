-- A text to which words, a sum and other words were appended.
use Rattle.std.proofs.Common.{◌≡◌, ℕ, List, ◌++◌, Result, Ok, Err, OnOk, append_assoc, refl}

pub appended : {A E : Type 0} (r : Result A E) (a b c d words sum rest : List ℕ) → b ≡ a ++ words → c ≡ b ++ sum → OnOk r (d ≡ c ++ rest)
    → OnOk r (d ≡ a ++ (words ++ (sum ++ rest)))
appended (Ok x) a b c d words sum rest one two three = rw (three, two, one, append_assoc (a ++ words) sum rest, append_assoc a words (sum ++ rest)) refl
appended (Err e) a b c d words sum rest one two three = tt
