-- Proofs that the facts of a sum ask for; there is nothing to believe here.
use Rattle.std.specs.Prelude.{◌≡◌, ℕ, ◌+◌, ◌≤◌, Bool, true, false, not, ◌==◌, ◌||◌, ◌&&◌, List, [], ◌∷◌, length}
use Rattle.std.proofs.{Common.arith, Common.refl, lemmas.Bool.Decides.nat_tests}
use Rattle.lane_ascii.specs.Marks.{cr, lf, is_mark, one_if, marks, ends_cr}
use Rattle.lane_utf.specs.Widths.{utf8_width, utf16_width, total_width}
use Rattle.state_memo.specs.Lines.{begins_lf}

one_if-le : (b : Bool) → one_if b ≤ 1
one_if-le true = Prim.omega arith
one_if-le false = Prim.omega arith

pub marks-few : (f : Bool) (cs : List ℕ) → marks f cs ≤ length cs
marks-few f [] = Prim.omega arith
marks-few f (c ∷ cs) = Prim.omega (arith, one_if-le (is_mark f c), marks-few (c == cr) cs)

pub utf8_width-some : (c : ℕ) → 1 ≤ utf8_width c
utf8_width-some c = Prim.grind (arith, nat_tests)

utf16_width-le : (c : ℕ) → utf16_width c ≤ utf8_width c
utf16_width-le c = Prim.grind (arith, nat_tests)

pub scalars-few : (cs : List ℕ) → length cs ≤ total_width utf8_width cs
scalars-few [] = Prim.omega arith
scalars-few (c ∷ cs) = Prim.omega (arith, utf8_width-some c, scalars-few cs)

pub utf16-few : (cs : List ℕ) → total_width utf16_width cs ≤ total_width utf8_width cs
utf16-few [] = Prim.omega arith
utf16-few (c ∷ cs) = Prim.omega (arith, utf16_width-le c, utf16-few cs)

lf_mark : (x y : Bool) → y ≡ true → one_if (x || (y && not false)) ≡ 1
lf_mark true y e = refl
lf_mark false true e = refl
lf_mark false false e = absurd Prim.cc

pub lf-counts : (cs : List ℕ) → begins_lf cs ≡ true → 1 ≤ marks false cs
lf-counts [] e = absurd Prim.cc
lf-counts (c ∷ cs) e = Prim.omega (arith, lf_mark (c == cr) (c == lf) e)

cr-counts_from : (f g : Bool) (cs : List ℕ) → ends_cr f cs ≡ true → 1 ≤ one_if f + marks g cs
cr-counts_from true g [] e = Prim.omega arith
cr-counts_from false g [] e = absurd Prim.cc
cr-counts_from f g (c ∷ cs) e = let rest = cr-counts_from (c == cr) (c == cr) cs e in one_step f g (c == cr) (c == lf) (marks (c == cr) cs) rest
  where
    one_step : (f g x y : Bool) (k : ℕ) → 1 ≤ one_if x + k → 1 ≤ one_if f + (one_if (x || (y && not g)) + k)
    one_step f g true y k h = Prim.omega arith
    one_step f g false y k h = Prim.omega (arith, h)

pub cr-counts : (cs : List ℕ) → ends_cr false cs ≡ true → 1 ≤ marks false cs
cr-counts cs e = Prim.omega (arith, cr-counts_from false false cs e)
