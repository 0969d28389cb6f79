-- Comparing the text that an edit would leave with the one that is wanted.
use Rattle.std.specs.Prelude.{◌≡◌, ℕ, ◌+◌, ◌-◌, ◌≤◌, min, List, ◌++◌, take, drop, length}
use Rattle.std.specs.Str.{encode_utf8_all}
use Rattle.state_memo.specs.declared.outcome.Outcome.{Outcome}
use Rattle.piece_rope.specs.{declared.span.Span.Span, Parts.text_in}

-- what is left of a text in parts, as bytes: of a partly read part, and of the parts from number `next`
abbrev pub rest_of : List Outcome → List ℕ → ℕ → List ℕ
rest_of parts head next = head ++ encode_utf8_all (text_in (drop next parts))

-- the first n bytes of both are the same, and are all of one
pub record IsMatch (head left : List ℕ) (n : ℕ) : Type 0 where
  pub count : n ≡ min (length head) (length left)
  pub same : take n head ≡ take n left

-- The code points that are compared: old and new text are the same before and after them. The code points from i to j of the old text are
-- among them.
pub record IsSpan (old new : List Outcome) (i j : ℕ) (s : Span) : Type 0 where
  pub mid : List ℕ
  pub made : List ℕ
  pub back : List ℕ
  pub within : s.first ≤ length old
  pub front_is : text_in (take s.first new) ≡ text_in (take s.first old)
  pub old_is : text_in (drop s.first old) ≡ mid ++ back
  pub new_is : text_in (drop s.first new) ≡ made ++ back
  pub before_is : s.before ≡ length (text_in (take s.first old))
  pub end_is : s.end ≡ s.before + length mid
  pub low : s.before ≤ i
  pub high : j ≤ s.end

-- the code points that are wanted there: those of the old text, with the ones from i to j replaced
abbrev pub wanted : List ℕ → Span → ℕ → ℕ → List ℕ → List ℕ
wanted old s i j put = (take (i - s.before) (drop s.before old) ++ put) ++ take (s.end - j) (drop j old)
