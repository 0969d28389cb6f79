-- Runs by the numbers of their shapes.
use Rattle.std.proofs.Common.{◌≡◌, refl, sym, ap, ◌∙◌, ℕ, suc, ◌+◌, ◌-◌, ◌<◌, List, [], ◌∷◌, ◌++◌, length, length-append, arith, ℤ, pos, ◌+ℤ◌, Some, get_or}
use Rattle.std.proofs.Common.{slice_get}
use Rattle.std.proofs.lemmas.List.{get_or_append_left}
use Rattle.state_memo.specs.Shaped.{AreNamed, all_gaps, no_shape, run_behind, shapes_of, shaped_runs}
use Rattle.state_memo.{specs.declared.shape.Shape.Shape, proofs.Prelude.ints, proofs.Prelude.map-append, proofs.Prelude.Run}

-- the shape that a number names
abbrev pub shape_at : List Shape → ℕ → Shape
shape_at shapes n = get_or shapes n no_shape

-- ---- one more

shapes-more : (shapes more : List Shape) (numbers : List ℕ) → AreNamed (length shapes) numbers → shapes_of (shapes ++ more) numbers ≡ shapes_of shapes numbers
shapes-more shapes more [] all = refl
shapes-more shapes more (k ∷ ks) all =
    rw (get_or_append_left shapes more no_shape k all.0, shapes-more shapes more ks all.1) refl

named-more : (count more : ℕ) (numbers : List ℕ) → AreNamed count numbers → AreNamed (count + more) numbers
named-more count more [] all = tt
named-more count more (k ∷ ks) all = (omega (arith, all.0), named-more count more ks all.1)

named-push : (count : ℕ) (numbers : List ℕ) (n : ℕ) → AreNamed count numbers → n < count → AreNamed count (numbers ++ n ∷ [])
named-push count [] n all h = (h, tt)
named-push count (k ∷ ks) n all h = (all.0, named-push count ks n all.1 h)

gaps-push : (ss : List Shape) (s : Shape) → all_gaps (ss ++ s ∷ []) ≡ all_gaps ss + s.gap
gaps-push [] s = omega arith
gaps-push (t ∷ ss) s = omega (arith, gaps-push ss s)

runs-push : (end : ℤ) (ss : List Shape) (s : Shape) → shaped_runs end (ss ++ s ∷ []) ≡ shaped_runs end ss ++ run_behind (end +ℤ pos (all_gaps ss)) s ∷ []
runs-push end [] s = ap (λ (z : ℤ). run_behind z s ∷ []) (omega (arith, ints))
runs-push end (t ∷ ss) s =
    let place : end +ℤ pos t.gap +ℤ pos (all_gaps ss) ≡ end +ℤ pos (t.gap + all_gaps ss) = omega (arith, ints) in
    rw (runs-push (end +ℤ pos t.gap) ss s, place) refl

-- one of these shapes, or one more, joins the runs
module _ (from last : ℤ) (shapes grown more : List Shape) (numbers : List ℕ) (all : AreNamed (length shapes) numbers)
    (last_is : last ≡ from +ℤ pos (all_gaps (shapes_of shapes numbers)))
    (grown_is : grown ≡ shapes ++ more) (n : ℕ) (s : Shape) (within : n < length grown) (named : shape_at grown n ≡ s) where
  then-is : shapes_of grown (numbers ++ n ∷ []) ≡ shapes_of shapes numbers ++ s ∷ []
  then-is = rw (map-append (shape_at grown) numbers (n ∷ []), named, grown_is, shapes-more shapes more numbers all) refl

  pub put-named : AreNamed (length grown) (numbers ++ n ∷ [])
  put-named =
      let count : length shapes + length more ≡ length grown = omega (arith, ap length grown_is, length-append shapes more) in
      named-push (length grown) numbers n (rw (sym count) (named-more (length shapes) (length more) numbers all)) within

  module _ (r : Run) (is : run_behind last s ≡ r) where
    pub put-last : r.last ≡ from +ℤ pos (all_gaps (shapes_of grown (numbers ++ n ∷ [])))
    put-last = omega (arith, ints, ap (λ (x : Run). x.last) is, last_is, ap all_gaps then-is, gaps-push (shapes_of shapes numbers) s)

    pub put-runs : shaped_runs from (shapes_of grown (numbers ++ n ∷ [])) ≡ shaped_runs from (shapes_of shapes numbers) ++ r ∷ []
    put-runs = rw (then-is, runs-push from (shapes_of shapes numbers) s, ← last_is, is) refl

-- the runs so far: each has the shape that its number names, after the end of the one before it
pub record AreShaped (shapes : List Shape) (numbers : List ℕ) (from last : ℤ) (runs : List Run) : Type 0 where
  pub named : AreNamed (length shapes) numbers
  pub ends : last ≡ from +ℤ pos (all_gaps (shapes_of shapes numbers))
  pub same : shaped_runs from (shapes_of shapes numbers) ≡ runs

-- and one more
pub next-shaped : {shapes grown : List Shape} {numbers then : List ℕ} {from last end : ℤ} {runs all : List Run} {n : ℕ} {s : Shape} {r : Run}
    → AreShaped shapes numbers from last runs → (more : List Shape) → grown ≡ shapes ++ more → n < length grown → shape_at grown n ≡ s
    → run_behind last s ≡ r → then ≡ numbers ++ n ∷ [] → end ≡ r.last → all ≡ runs ++ r ∷ [] → AreShaped grown then from end all
next-shaped {shapes} {grown} {numbers} {then} {from} {last} {end} {runs} {all} {n} {s} {r} held more grown_is within named is then_is end_is all_is =
    rw (then_is, end_is, all_is)
    (record {
      named = put-named from last shapes grown more numbers held.named held.ends grown_is n s within named;
      ends = put-last from last shapes grown more numbers held.named held.ends grown_is n s within named r is;
      same = rw (put-runs from last shapes grown more numbers held.named held.ends grown_is n s within named r is, held.same) refl;
    })

-- ---- the last one

pub last-shaped : (end last : ℤ) (shapes : List Shape) (numbers : List ℕ) (n : ℕ) → slice_get numbers (length numbers - 1) ≡ Some n
    → last ≡ end +ℤ pos (all_gaps (shapes_of shapes numbers))
    → slice_get (shaped_runs end (shapes_of shapes numbers)) (length (shaped_runs end (shapes_of shapes numbers)) - 1)
    ≡ Some (record { last = last; more = (shape_at shapes n).more; step = (shape_at shapes n).step; kind = (shape_at shapes n).kind })
last-shaped end last shapes [] n h last_is = absurd cc
last-shaped end last shapes (k ∷ []) n h last_is =
    let e : k ≡ n = cc in
    let ends : last ≡ end +ℤ pos (shape_at shapes n).gap = omega (arith, ints, last_is, ap (λ (m : ℕ). (shape_at shapes m).gap) e) in
    rw (e, ends) refl
last-shaped end last shapes (k ∷ j ∷ ks) n h last_is =
    let s = shape_at shapes k in
    let runs = shaped_runs (end +ℤ pos s.gap) (shapes_of shapes (j ∷ ks)) in
    let one_less : suc (length (j ∷ ks) - 1) ≡ length (k ∷ j ∷ ks) - 1 = omega arith in
    let less : length (run_behind end s ∷ runs) - 1 ≡ suc (length runs - 1) = omega arith in
    ap (slice_get (run_behind end s ∷ runs)) less
    ∙ last-shaped (end +ℤ pos s.gap) last shapes (j ∷ ks) n (ap (slice_get (k ∷ j ∷ ks)) one_less ∙ h) (omega (arith, ints, last_is))

pub named-last : (count : ℕ) (numbers : List ℕ) (n : ℕ) → slice_get numbers (length numbers - 1) ≡ Some n → AreNamed count numbers → n < count
named-last count [] n h all = absurd cc
named-last count (k ∷ []) n h all = let e : k ≡ n = cc in omega (arith, e, all.0)
named-last count (k ∷ j ∷ ks) n h all =
    let one_less : suc (length (j ∷ ks) - 1) ≡ length (k ∷ j ∷ ks) - 1 = omega arith in
    named-last count (j ∷ ks) n (ap (slice_get (k ∷ j ∷ ks)) one_less ∙ h) all.1

pub some-shaped : (end : ℤ) (shapes : List Shape) (numbers : List ℕ) → 0 < length numbers → 0 < length (shaped_runs end (shapes_of shapes numbers))
some-shaped end shapes [] some = absurd (omega (arith, some))
some-shaped end shapes (k ∷ ks) some = omega arith
