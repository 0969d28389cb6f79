-- The errors on lines before a line.
use Rattle.std.proofs.Common.{ℕ, ◌≡◌, refl, sym, ap, ◌∙◌, zero, suc, ◌+◌, ◌<◌, ◌≤◌, Bool, true, cond, nat_lt, nat_le, List, [], ◌∷◌, length, map, count_by}
use Rattle.position_map.proofs.Words.{arith, Some, slice_get, option_map, nat_tests, count_by-le-length, sum_by-cons, Document, text_of, errors_of, Point}
use Rattle.position_map.proofs.Words.{TextUnit, Utf8, ErrorAt, all_errors, errors_before_line, scalar_of, LineSpan, lines_of, IsLineStart, start_of, line_at}
use Rattle.position_map.proofs.{Words.by_le, Words.same_some, Words.none_some, Words.map_some, ErrorPieces.errors-count, ErrorRuns.below}
use Rattle.position_map.proofs.LineMarks.{Ascending, ascending, ascending-line, first_start, begun, begun_not, begun_one, none_begun}

-- line `k` is among the lines that have begun where it starts at or before the offset
begun-past : (o from at to k : ℕ) (ls : List LineSpan) (l : LineSpan) → Ascending from at to ls → slice_get ls k ≡ Some l → l.start ≤ o → k < begun o ls
begun-past o from at to k [] l a e h = absurd (none_some e)
begun-past o from at to zero (x ∷ xs) l a e h =
    let same : x.start ≡ l.start = ap start_of (same_some e) in omega (arith, begun_one o x xs (omega arith))
begun-past o from at to (suc k) (x ∷ xs) l a e h =
    let w = ascending-line (x.end + 1) (x.end + 1) to xs k l a.4 e in
    omega (arith, begun_one o x xs (omega (arith, w.0, a.1, h)), begun-past o (x.end + 1) (x.end + 1) to k xs l a.4 e h)

begun-before : (o from at to k : ℕ) (ls : List LineSpan) (l : LineSpan) → Ascending from at to ls → slice_get ls k ≡ Some l → o < l.start → begun o ls ≤ k
begun-before o from at to k [] l a e h = absurd (none_some e)
begun-before o from at to zero (x ∷ xs) l a e h =
    let same : x.start ≡ l.start = ap start_of (same_some e) in
    omega (arith, begun_not o x xs (omega arith), none_begun o (x.end + 1) (x.end + 1) to xs a.4 (omega (arith, a.1)))
begun-before o from at to (suc k) (x ∷ xs) l a e h =
    let later = begun-before o (x.end + 1) (x.end + 1) to k xs l a.4 e h in
    by_le x.start o (λ le. omega (arith, begun_one o x xs le, later)) (λ lt. omega (arith, begun_not o x xs lt, later))

-- some line has begun
one-begun : (text : List ℕ) (o : ℕ) → 1 ≤ begun o (lines_of text)
one-begun text o =
    let w = map_some start_of (slice_get (lines_of text) 0) 0 (first_start text) in
    omega (arith, begun-past o 0 0 (length text) 0 (lines_of text) w.0 (ascending text) w.1 (omega (arith, w.2)))

-- the line of a code point is before a line where the code point is before the line's start
before-start : (text : List ℕ) (n k o : ℕ) → option_map start_of (slice_get (lines_of text) n) ≡ Some k → nat_lt (line_at text o) n ≡ nat_lt o k
before-start text n k o e =
    let w = map_some start_of (slice_get (lines_of text) n) k e in
    let one = one-begun text o in
    by_le k o
    (λ le. let past = begun-past o 0 0 (length text) n (lines_of text) w.0 (ascending text) w.1 (omega (arith, w.2, le)) in
    grind (arith, nat_tests, past, one, le))
    (λ lt. let before = begun-before o 0 0 (length text) n (lines_of text) w.0 (ascending text) w.1 (omega (arith, w.2, lt)) in
    grind (arith, nat_tests, before, one, lt))

-- every line is before one past the last
before-none : (text : List ℕ) (n o : ℕ) → length (lines_of text) ≤ n → nat_lt (line_at text o) n ≡ true
before-none text n o h =
    grind (arith, nat_tests, one-begun text o, count_by-le-length (λ (l : LineSpan). nat_le l.start o) (lines_of text), h)

-- counts by numbers
count-map : (p : ErrorAt → Bool) (q : ℕ → Bool) (es : List ErrorAt) → ((e : ErrorAt) → p e ≡ q e.scalar) → count_by p es ≡ count_by q (map scalar_of es)
count-map p q [] h = refl
count-map p q (e ∷ es) h =
    rw (sum_by-cons (λ (x : ErrorAt). cond (p x) 1 0) e es, h e, count-map p q es h) (sym (sum_by-cons (λ (s : ℕ). cond (q s) 1 0) e.scalar (map scalar_of es)))

count-all : (p : ErrorAt → Bool) (es : List ErrorAt) → ((e : ErrorAt) → p e ≡ true) → count_by p es ≡ length es
count-all p [] h = refl
count-all p (e ∷ es) h = rw (sum_by-cons (λ (x : ErrorAt). cond (p x) 1 0) e es, h e, count-all p es h) (omega arith)

pub before-few : (d : Document) (unit : TextUnit) (n : ℕ) → errors_before_line d n ≤ length (errors_of d)
unfolding errors_before_line
before-few d unit n =
    omega (arith, count_by-le-length (λ (e : ErrorAt). nat_lt (line_at (text_of d) e.scalar) n) (all_errors d), errors-count d unit)

pub before-line : (d : Document) (unit : TextUnit) (n : ℕ) (p : Point) → IsLineStart unit (text_of d) n p
    → below p.scalars (map scalar_of (all_errors d)) ≡ errors_before_line d n
unfolding errors_before_line
before-line d unit n p s =
    sym (count-map (λ (e : ErrorAt). nat_lt (line_at (text_of d) e.scalar) n) (λ (x : ℕ). nat_lt x p.scalars) (all_errors d)
    (λ e. before-start (text_of d) n p.scalars e.scalar s.is))

pub before-end : (d : Document) (n : ℕ) → length (lines_of (text_of d)) ≤ n → length (errors_of d) ≡ errors_before_line d n
unfolding errors_before_line
before-end d n h =
    let none = count-all (λ (e : ErrorAt). nat_lt (line_at (text_of d) e.scalar) n) (all_errors d) (λ e. before-none (text_of d) n e.scalar h) in
    sym (none ∙ errors-count d Utf8)
