-- A position that isn't behind another has no greater offset.
use Rattle.std.proofs.Common.{ℕ, ◌≡◌, refl, sym, ap, ◌∙◌, zero, suc, ◌+◌, ◌-◌, ◌<◌}
use Rattle.position_map.proofs.Words.{◌≤◌, ◌⊎◌, inl, inr, false, List, [], ◌∷◌, length, drop, arith, Option, Some, None, Ok, slice_get, option_map, nat_tests}
use Rattle.position_map.proofs.Words.{length-take, Position, TextUnit, SplitsCharacter, LineSpan, lines_of, is_behind, along, between, offset_on, offset_at}
use Rattle.position_map.proofs.Words.{offset_of, width_of, by_le, same_some, none_some, map_some, ok_some, same_ok, none_past, slice_get_within, end_of}
use Rattle.position_map.proofs.Alongs.{along_none, along_place, along_step, along_inside}
use Rattle.position_map.proofs.LineMarks.{Ascending, ascending, ascending-line}

-- ---- lines

ascending-lines : (from at to : ℕ) (ls : List LineSpan) (k m : ℕ) (a b : LineSpan) → Ascending from at to ls → k < m → slice_get ls k ≡ Some a
    → slice_get ls m ≡ Some b → a.end ≤ b.start
ascending-lines from at to [] k m a b w lt h g = absurd (none_some h)
ascending-lines from at to (x ∷ ls) k zero a b w lt h g = absurd (omega (arith, lt))
ascending-lines from at to (x ∷ ls) zero (suc m) a b w lt h g =
    let e : x.end ≡ a.end = ap end_of (same_some h) in omega (arith, ascending-line (x.end + 1) (x.end + 1) to ls m b w.4 g)
ascending-lines from at to (x ∷ ls) (suc k) (suc m) a b w lt h g = ascending-lines (x.end + 1) (x.end + 1) to ls k m a b w.4 (omega (arith, lt)) h g

-- ---- characters on a line

along-zero : (u : TextUnit) (cs : List ℕ) (k : ℕ) → along u cs 0 ≡ Some k → k ≡ 0
along-zero u cs k h = same_some (sym h ∙ along_none u cs)

-- after a code point that is passed
along-past : (u : TextUnit) (c : ℕ) (cs : List ℕ) (n k : ℕ) → 0 < n → along u (c ∷ cs) n ≡ Some k
    → (width_of u c ≤ n) × (j : ℕ) × (along u cs (n - width_of u c) ≡ Some j) × (j + 1 ≡ k)
along-past u c cs n k some h =
    by_le (width_of u c) n
    (λ le. let w = map_some (λ j. j + 1) (along u cs (n - width_of u c)) k (sym (along_step u c cs n le) ∙ h) in (le, w.0, w.1, w.2))
    (λ lt. absurd (none_some (sym (along_inside u c cs n some lt) ∙ h)))

along-ascends : (u : TextUnit) (cs : List ℕ) (m n j k : ℕ) → m ≤ n → along u cs m ≡ Some j → along u cs n ≡ Some k → j ≤ k
along-ascends u [] m n j k le h g = omega (arith, sym (same_some h), sym (same_some g))
along-ascends u (c ∷ cs) m n j k le h g =
    by_le 1 m
    (λ some.
    let a = along-past u c cs m j some h in
    let b = along-past u c cs n k (omega (arith, some, le)) g in
    let rest = along-ascends u cs (m - width_of u c) (n - width_of u c) a.1 b.1 (omega (arith, le)) a.2 b.2 in
    omega (arith, a.3, b.3, rest))
    (λ none. let first : 0 ≡ m = omega (arith, none) in omega (arith, along-zero u (c ∷ cs) j (ap (along u (c ∷ cs)) first ∙ h)))

-- ---- offsets

on_line : (text : List ℕ) (u : TextUnit) (l : LineSpan) (n i : ℕ) → offset_on text u l n ≡ Ok i
    → (k : ℕ) × (along u (between text l.start l.end) n ≡ Some k) × (l.start + k ≡ i)
on_line text u l n i h =
    let line = along u (between text l.start l.end) n in
    map_some (λ k. l.start + k) line i (ok_some (option_map (λ k. l.start + k) line) SplitsCharacter i h)

line-room : (text : List ℕ) (u : TextUnit) (l : LineSpan) (n i : ℕ) → l.start ≤ l.end → offset_on text u l n ≡ Ok i → (l.start ≤ i) × (i ≤ l.end)
line-room text u l n i order h =
    let p = on_line text u l n i h in
    let within = (along_place u (between text l.start l.end) n p.0 p.1).within in
    let few = length-take (l.end - l.start) (drop l.start text) in
    (omega (arith, p.2), omega (arith, p.2, within, few, order))

offset-room : (text : List ℕ) (u : TextUnit) (p : Position) (i : ℕ) (o : Option LineSpan) → slice_get (lines_of text) p.line ≡ o
    → offset_at text u o p.character ≡ Ok i → i ≤ length text
offset-room text u p i None at h = omega (arith, sym (same_ok h))
offset-room text u p i (Some l) at h =
    let w = ascending-line 0 0 (length text) (lines_of text) p.line l (ascending text) at in
    omega (arith, (line-room text u l p.character i w.1 h).1, w.3)

pub offset_within : (text : List ℕ) (u : TextUnit) (p : Position) (i : ℕ) → offset_of text u p ≡ Ok i → i ≤ length text
unfolding offset_of
offset_within text u p i h = offset-room text u p i (slice_get (lines_of text) p.line) refl h

-- by line, and then by character
abbrev InOrder : Position → Position → Type 0
InOrder p q = (p.line < q.line) ⊎ ((p.line ≡ q.line) × (p.character ≤ q.character))

in_order : (p q : Position) → is_behind p q ≡ false → InOrder p q
in_order p q h =
    by_le (p.line + 1) q.line (λ lt. inl (omega (arith, lt))) (λ le. inr (grind (arith, nat_tests, h, le), grind (arith, nat_tests, h, le)))

ordered-offsets : (text : List ℕ) (u : TextUnit) (p q : Position) (i j : ℕ) (a b : Option LineSpan) → slice_get (lines_of text) p.line ≡ a
    → slice_get (lines_of text) q.line ≡ b → InOrder p q → offset_at text u a p.character ≡ Ok i → offset_at text u b q.character ≡ Ok j → i ≤ j
ordered-offsets text u p q i j a None at bt order h g = omega (arith, offset-room text u p i a at h, sym (same_ok g))
ordered-offsets text u p q i j None (Some m) at bt order h g =
    let past = none_past (lines_of text) p.line at in let within = slice_get_within (lines_of text) q.line m bt in
    elim order [ inl lt ↦ absurd (omega (arith, lt, past, within)) | inr e ↦ absurd (omega (arith, e.0, past, within)) ]
ordered-offsets text u p q i j (Some l) (Some m) at bt (inl lt) h g =
    let w = ascending text in
    let one = ascending-line 0 0 (length text) (lines_of text) p.line l w at in
    let two = ascending-line 0 0 (length text) (lines_of text) q.line m w bt in
    omega (
      arith,
      (line-room text u l p.character i one.1 h).1,
      ascending-lines 0 0 (length text) (lines_of text) p.line q.line l m w lt at bt,
      (line-room text u m q.character j two.1 g).0,
    )
ordered-offsets text u p q i j (Some l) (Some m) at bt (inr e) h g =
    let same : l ≡ m = same_some (sym at ∙ ap (slice_get (lines_of text)) e.0 ∙ bt) in
    let here : offset_on text u l q.character ≡ Ok j = ap (λ (x : LineSpan). offset_on text u x q.character) same ∙ g in
    let one = on_line text u l p.character i h in
    let two = on_line text u l q.character j here in
    omega (arith, one.2, two.2, along-ascends u (between text l.start l.end) p.character q.character one.0 two.0 e.1 one.1 two.1)

pub ordered : (text : List ℕ) (u : TextUnit) (p q : Position) (i j : ℕ) → is_behind p q ≡ false → offset_of text u p ≡ Ok i → offset_of text u q ≡ Ok j → i ≤ j
unfolding offset_of
ordered text u p q i j order h g = ordered-offsets text u p q i j (slice_get (lines_of text) p.line) (slice_get (lines_of text) q.line)
    refl refl (in_order p q order) h g
