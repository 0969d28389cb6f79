-- Pairs in cells, and the others beside them.
use Rattle.std.proofs.Common.{◌≡◌, ℕ, zero, suc, ◌+◌, ◌-◌, ◌≤◌, ◌<◌, ◌⊎◌, inl, inr, List, [], ◌∷◌, ◌++◌, length, get_or, set, map, filter, nat_le, replicate}
use Rattle.std.proofs.Common.{Option, Some, None, All, refl, sym, ap, subst, arith, ◌∙◌, ⊎_elim, append-nil, append_assoc, get_or-set_other, IsPermutation}
use Rattle.std.proofs.{Common.IfSome, lemmas.Bool.leb-true, lemmas.Grind.get_or-set_at, lemmas.List.map-append, lemmas.List.Elements.filter-append}
use Rattle.std.proofs.lemmas.List.Sorted.{All-permutation, IsPermutation-append_comm, IsPermutation-append_left, IsPermutation-append_right, IsPermutation-cons}
use Rattle.std.proofs.lemmas.List.Sorted.{IsPermutation-middle, IsPermutation-refl, IsPermutation-sym, IsPermutation-trans}
use Rattle.index_loader.proofs.ByCodePointLemmas.{has-pointer, pair-of_pointer}
use Rattle.index_loader.proofs.Members.{Has, all-from, all-has, key-none, key-some, of-greatest, within-permutation, has-filter, from-filter, least-is}
use Rattle.index_loader.proofs.Members.{greatest-is, least-same, within-filter}
use Rattle.index_loader.proofs.Prelude.{Pairs, greater, greatest, least, pointers_with, row_code_point, IsRising}
use Rattle.index_loader.specs.FirstPointers.{AreFirst, IsPut, IsTaken, first_in, greatest_of, pairs_held, pairs_in_cells, pairs_left, pointer_in}

from-append : {X : Type 0} (xs ys : List X) (x : X) → Has x (xs ++ ys) → Has x xs ⊎ Has x ys
from-append [] ys x h = inr h
from-append (z ∷ xs) ys x h = grind (arith, from-append xs ys x)

into-append : {X : Type 0} (xs ys : List X) (x : X) → Has x xs ⊎ Has x ys → Has x (xs ++ ys)
into-append [] ys x h = grind arith
into-append (z ∷ xs) ys x h = grind (arith, into-append xs ys x)

-- the cell of a pair in cells
place-in_cells : (start : ℕ) (cells : List ℕ) (pair : ℕ × ℕ) → Has pair (pairs_in_cells start cells) → (i : ℕ) × (pair.1 ≡ start + i)
    × (get_or cells i 0 ≡ suc pair.0)
place-in_cells start [] pair h = absurd h
place-in_cells start (zero ∷ cells) pair h = let p = place-in_cells (start + 1) cells pair h in (suc p.0, omega (arith, p.1), p.2)
place-in_cells start (suc pointer ∷ cells) pair (inl e) = rw (← e) (0, omega arith, refl)
place-in_cells start (suc pointer ∷ cells) pair (inr h) = let p = place-in_cells (start + 1) cells pair h in (suc p.0, omega (arith, p.1), p.2)

-- the pair in a cell
in-cell : (start i code_point pointer : ℕ) (cells : List ℕ) → code_point ≡ start + i → get_or cells i 0 ≡ suc pointer
    → Has (pointer, code_point) (pairs_in_cells start cells)
in-cell start i code_point pointer [] at is = absurd (omega (arith, is))
in-cell start zero code_point pointer (zero ∷ cells) at is = absurd (omega (arith, is))
in-cell start zero code_point pointer (suc other ∷ cells) at is =
    inl (let e : other ≡ pointer = omega (arith, is) in let f : start ≡ code_point = omega arith in cc)
in-cell start (suc i) code_point pointer (zero ∷ cells) at is = in-cell (start + 1) i code_point pointer cells (omega arith) is
in-cell start (suc i) code_point pointer (suc other ∷ cells) at is = inr (in-cell (start + 1) i code_point pointer cells (omega arith) is)

cell-of : (cell pointer : ℕ) → pointer_in cell ≡ Some pointer → cell ≡ suc pointer
cell-of zero pointer is = absurd (cc)
cell-of (suc other) pointer is = grind arith

cells-first : (cells : List ℕ) (pair : ℕ × ℕ) → Has pair (pairs_in_cells 0 cells) → first_in cells pair.1 ≡ Some pair.0
cells-first cells pair h =
    let p = place-in_cells 0 cells pair h in let e : pair.1 ≡ p.0 = omega (arith, p.1) in rw (e, p.2)

first-in_cells : (cells : List ℕ) (code_point pointer : ℕ) → first_in cells code_point ≡ Some pointer → Has (pointer, code_point) (pairs_in_cells 0 cells)
first-in_cells cells code_point pointer is = in-cell 0 code_point code_point pointer cells (omega arith) (cell-of (get_or cells code_point 0) pointer is)

-- the number of a pair is no smaller than the pointer in its cell
abbrev IsAbove : List ℕ → ℕ × ℕ → Type 0
IsAbove cells pair = (pointer : ℕ) → first_in cells pair.1 ≡ Some pointer → pointer ≤ pair.0

module _ (cells : List ℕ) (others : Pairs) where
  -- a pair that is held is in its cell or among the others
  held-cases : (pair : ℕ × ℕ) → Has pair (pairs_held cells others) → (first_in cells pair.1 ≡ Some pair.0) ⊎ Has pair others
  held-cases pair h = grind (arith, from-append (pairs_in_cells 0 cells) others pair h, cells-first cells pair)

  held : (pair : ℕ × ℕ) → (first_in cells pair.1 ≡ Some pair.0) ⊎ Has pair others → Has pair (pairs_held cells others)
  held pair h = into-append (pairs_in_cells 0 cells) others pair (grind (arith, first-in_cells cells pair.1 pair.0))

  -- and the same of a pointer
  pointer-cases : (code_point pointer : ℕ) → Has pointer (pointers_with code_point (pairs_held cells others))
      → (first_in cells code_point ≡ Some pointer) ⊎ Has pointer (pointers_with code_point others)
  pointer-cases code_point pointer h =
      let there = pair-of_pointer code_point pointer (pairs_held cells others) h in
      grind (arith, held-cases (pointer, code_point) there, has-pointer code_point pointer others)

  held-pointer : (code_point pointer : ℕ) → (first_in cells code_point ≡ Some pointer) ⊎ Has pointer (pointers_with code_point others)
      → Has pointer (pointers_with code_point (pairs_held cells others))
  held-pointer code_point pointer h =
      has-pointer code_point pointer (pairs_held cells others) (held (pointer, code_point) (grind (arith, pair-of_pointer code_point pointer others)))

  -- what is first is no greater than the others
  first-below : AreFirst cells others → (code_point first pointer : ℕ) → first_in cells code_point ≡ Some first
      → Has pointer (pointers_with code_point others) → first ≤ pointer
  first-below firsts code_point first pointer is h =
      all-has (IsAbove cells) others (pointer, code_point) firsts (pair-of_pointer code_point pointer others h) first is

  -- the pointer in a cell is the smallest of its code point
  pub first-least : AreFirst cells others → (code_point pointer : ℕ) → first_in cells code_point ≡ Some pointer
      → Some pointer ≡ least (pointers_with code_point (pairs_held cells others))
  first-least firsts code_point pointer is =
      least-is _ (Some pointer) (
        held-pointer code_point pointer (inl is),
        λ n h. grind (arith, pointer-cases code_point n h, first-below firsts code_point pointer n is),
      )

  -- if the cell has none at or above a bound, the others give the smallest of these
  pub least-others : (code_point bound : ℕ) → ((p : ℕ) → first_in cells code_point ≡ Some p → p < bound)
      → least (filter (nat_le bound) (pointers_with code_point others)) ≡ least (filter (nat_le bound) (pointers_with code_point (pairs_held cells others)))
  least-others code_point bound below =
      least-same _ _ (within-filter (nat_le bound) _ _ (λ n h. held-pointer code_point n (inr h))) (λ n h.
      let f = from-filter (nat_le bound) (pointers_with code_point (pairs_held cells others)) n h in
      has-filter (nat_le bound) (pointers_with code_point others) n
      (grind (arith, pointer-cases code_point n f.0, leb-true bound n f.1, below n)) f.1)

  -- the greatest pointer among the others is the greatest
  pub last-others : AreFirst cells others → (code_point pointer : ℕ) → Some pointer ≡ greatest (pointers_with code_point others)
      → Some pointer ≡ greatest (pointers_with code_point (pairs_held cells others))
  last-others firsts code_point pointer is =
      let last = of-greatest (pointers_with code_point others) (Some pointer) is in
      let below : (n : ℕ) → first_in cells code_point ≡ Some n → n ≤ pointer = λ n e. first-below firsts code_point n pointer e last.0 in
      greatest-is _ (Some pointer) (
        held-pointer code_point pointer (inr last.0),
        λ n h. grind (arith, pointer-cases code_point n h, last.1 n, below n),
      )

  -- and if they have none, the one in the cell
  last-alone : (code_point : ℕ) → None ≡ greatest (pointers_with code_point others) → (o : Option ℕ)
      → o ≡ first_in cells code_point → o ≡ greatest (pointers_with code_point (pairs_held cells others))
  last-alone code_point none None is =
      greatest-is _ None (λ n h. grind (arith, pointer-cases code_point n h, of-greatest (pointers_with code_point others) None none n))
  last-alone code_point none (Some pointer) is =
      greatest-is _ (Some pointer) (
        held-pointer code_point pointer (inl (sym is)),
        λ n h. grind (arith, pointer-cases code_point n h, of-greatest (pointers_with code_point others) None none n),
      )

  pub last-in_cell : (code_point : ℕ) → None ≡ greatest (pointers_with code_point others)
      → first_in cells code_point ≡ greatest (pointers_with code_point (pairs_held cells others))
  last-in_cell code_point none = last-alone code_point none (first_in cells code_point) refl

-- no cell up to a bound has a pointer
pub cells-none : (cells : List ℕ) (bound : ℕ) → ((k : ℕ) → k ≤ bound → first_in cells k ≡ None) → None ≡ row_code_point (pairs_in_cells 0 cells) bound
cells-none cells bound none = key-none (λ (row : ℕ × ℕ). row.1) (pairs_in_cells 0 cells) bound (λ row h. grind (arith, cells-first cells row h, none row.1))

-- the last cell up to a bound that has one
pub cells-last : (cells : List ℕ) (at bound : ℕ) → at ≤ bound → 0 < get_or cells at 0
    → ((k : ℕ) → at + 1 ≤ k → k ≤ bound → first_in cells k ≡ None) → Some at ≡ row_code_point (pairs_in_cells 0 cells) bound
cells-last cells at bound within some none =
    let there = in-cell 0 at at (get_or cells at 0 - 1) cells (omega arith) (omega arith) in
    key-some (λ (row : ℕ × ℕ). row.1) (pairs_in_cells 0 cells) bound (get_or cells at 0 - 1, at) there within
    (λ row h le. grind (arith, cells-first cells row h, none row.1))

greater-of : (n : ℕ) (one other : Option ℕ) → greater n (greatest_of one other) ≡ greater (greater n one) other
greater-of n None other = refl
greater-of n (Some m) None = refl
greater-of n (Some m) (Some k) = omega arith

greatest-append : (ns ms : List ℕ) → greatest_of (greatest ns) (greatest ms) ≡ greatest (ns ++ ms)
greatest-append [] ms = refl
greatest-append (n ∷ ns) ms = rw (← greatest-append ns ms) (ap Some (sym (greater-of n (greatest ns) (greatest ms))))

-- the greatest code point of two lists of pairs
pub row-append : (ones others : Pairs) (bound : ℕ)
    → greatest_of (row_code_point ones bound) (row_code_point others bound) ≡ row_code_point (ones ++ others) bound
row-append ones others bound = rw (map-append, filter-append) (greatest-append _ _)

-- empty cells have no pairs
pub cells-empty : (start n : ℕ) → pairs_in_cells start (replicate n 0) ≡ []
cells-empty start zero = refl
cells-empty start (suc n) = cells-empty (start + 1) n

-- the greatest code point up to a bound isn't one above it
pub row-within : (rows : Pairs) (bound : ℕ) (o : Option ℕ) → o ≡ row_code_point rows bound → IfSome o (λ n. n ≤ bound)
row-within rows bound None is = tt
row-within rows bound (Some n) is =
    let starts = map (λ (row : ℕ × ℕ). row.1) rows in
    leb-true n bound (from-filter (λ start. nat_le start bound) starts n (of-greatest (filter (λ start. nat_le start bound) starts) (Some n) is).0).1

-- a pointer put into a cell: its pair comes to those in the cells, and the one that it replaces leaves them
set-cell_moved : (start i code_point pointer : ℕ) (cells : List ℕ) → start + i ≡ code_point → i < length cells
    → IsPermutation ((pointer, code_point) ∷ pairs_in_cells start cells) (pairs_left code_point (pointer_in (get_or cells i 0))
    ++ pairs_in_cells start (set cells i (suc pointer)))
set-cell_moved start i code_point pointer [] at lt = absurd (omega arith)
set-cell_moved start zero code_point pointer (zero ∷ cells) at lt = let e : code_point ≡ start = omega arith in rw e (IsPermutation-refl _)
set-cell_moved start zero code_point pointer (suc other ∷ cells) at lt =
    let e : code_point ≡ start = omega arith in rw e (IsPermutation-middle ((pointer, start) ∷ []) (other, start) (pairs_in_cells (start + 1) cells))
set-cell_moved start (suc i) code_point pointer (zero ∷ cells) at lt = set-cell_moved (start + 1) i code_point pointer cells (omega arith) (omega arith)
set-cell_moved start (suc i) code_point pointer (suc other ∷ cells) at lt =
    IsPermutation-trans _ _ _ (IsPermutation-middle ((pointer, code_point) ∷ []) (other, start) (pairs_in_cells (start + 1) cells))
    (IsPermutation-trans _ _ _ (IsPermutation-cons (other, start) _ _ (set-cell_moved (start + 1) i code_point pointer cells (omega arith) (omega arith)))
    (IsPermutation-sym _ _ (IsPermutation-middle (pairs_left code_point (pointer_in (get_or cells i 0))) (other, start)
    (pairs_in_cells (start + 1) (set cells i (suc pointer))))))

moved-behind : (pair : ℕ × ℕ) (before left after others : Pairs) → IsPermutation (pair ∷ before) (left ++ after)
    → IsPermutation (pair ∷ (before ++ others)) (after ++ (others ++ left))
moved-behind pair before left after others moved =
    let first = subst (λ (ys : Pairs). IsPermutation (pair ∷ (before ++ others)) ys) (append_assoc left after others)
    (IsPermutation-append_left others (pair ∷ before) (left ++ after) moved) in
    subst (λ (ys : Pairs). IsPermutation (pair ∷ (before ++ others)) ys) (append_assoc after others left)
    (IsPermutation-trans _ _ _ first (IsPermutation-append_comm left (after ++ others)))

left-has : (code_point : ℕ) (left : Option ℕ) (pair : ℕ × ℕ) → Has pair (pairs_left code_point left) → (left ≡ Some pair.0) × (pair.1 ≡ code_point)
left-has code_point None pair h = absurd h
left-has code_point (Some pointer) pair h = grind arith

module _ (pair : ℕ × ℕ) (cells after : List ℕ) (left : Option ℕ) where
  -- a pair that was put into the cells is held, with those that were held before
  put-moved : (others : Pairs) → IsPut pair cells after left
      → IsPermutation (pair ∷ pairs_held cells others) (pairs_held after (others ++ pairs_left pair.1 left))
  put-moved others (inl put) =
      let moved = set-cell_moved 0 pair.1 pair.1 pair.0 cells (omega arith) put.within in
      let e : pair.0 + 1 ≡ suc pair.0 = omega arith in
      rw (put.put, put.out, e)
      (moved-behind pair (pairs_in_cells 0 cells) (pairs_left pair.1 (first_in cells pair.1)) (pairs_in_cells 0 (set cells pair.1 (suc pair.0))) others moved)
  put-moved others (inr out) =
      rw (out.same, out.out) (moved-behind pair (pairs_in_cells 0 cells) (pair ∷ []) (pairs_in_cells 0 cells) others (IsPermutation-refl _))

  -- what a cell has once a pair was put: its pointer, or what it had
  put-cell : IsPut pair cells after left → (code_point pointer : ℕ) → first_in after code_point ≡ Some pointer
      → (pointer ≡ pair.0) ⊎ (first_in cells code_point ≡ Some pointer)
  put-cell (inl put) code_point pointer is =
      let cell = cell-of (get_or after code_point 0) pointer is in
      let here = get_or-set_at cells pair.1 code_point (pair.0 + 1) 0 in
      let other = get_or-set_other cells pair.1 code_point (pair.0 + 1) 0 in
      grind (arith, put.put, put.within, here, other)
  put-cell (inr out) code_point pointer is = inr (rw out.same at is)

  -- what is left was above what was put, and no smaller than its cell
  left-small : (others : Pairs) → IsPut pair cells after left → ((other : ℕ × ℕ) → Has other (pairs_held cells others) → pair.0 < other.0)
      → (n : ℕ) → left ≡ Some n → (pair.0 ≤ n) × ((p : ℕ) → first_in cells pair.1 ≡ Some p → p ≤ n)
  left-small others (inl put) above n is =
      let cell : first_in cells pair.1 ≡ Some n = sym put.out ∙ is in
      let low = above (n, pair.1) (held cells others (n, pair.1) (inl cell)) in (omega arith, λ p e. grind arith)
  left-small others (inr out) above n is =
      let e : Some pair.0 ≡ Some n = sym out.out ∙ is in (grind arith, λ p f. grind (arith, out.great p f))

  put-first : (others : Pairs) → IsPut pair cells after left → AreFirst cells others
      → ((other : ℕ × ℕ) → Has other (pairs_held cells others) → pair.0 < other.0) → AreFirst after (others ++ pairs_left pair.1 left)
  put-first others put firsts above =
      all-from (IsAbove after) (others ++ pairs_left pair.1 left) (λ other h p is.
      let small : (pair.0 ≤ other.0) × IsAbove cells other =
      ⊎_elim
      (λ (a : Has other others). let low = above other (held cells others other (inr a)) in (omega arith, all-has (IsAbove cells) others other firsts a))
      (λ (b : Has other (pairs_left pair.1 left)). let l = left-has pair.1 left other b in rw l.1 (left-small others put above other.0 l.0))
      (from-append others (pairs_left pair.1 left) other h) in
      ⊎_elim (λ (e : p ≡ pair.0). omega (arith, small.0)) (λ (f : first_in cells other.1 ≡ Some p). small.1 p f) (put-cell put other.1 p is))

-- rows without the last
rising-front : (rows : Pairs) (last : ℕ × ℕ) → IsRising (rows ++ last ∷ []) → IsRising rows
rising-front [] last up = tt
rising-front (row ∷ rows) last up = (
  all-from (λ (other : ℕ × ℕ). row.0 < other.0) rows
      (λ other h. all-has (λ (other : ℕ × ℕ). row.0 < other.0) (rows ++ last ∷ []) other up.0 (into-append rows (last ∷ []) other (inl h))),
  rising-front rows last up.1,
)

rising-below : (rows : Pairs) (last : ℕ × ℕ) → IsRising (rows ++ last ∷ []) → (row : ℕ × ℕ) → Has row rows → row.0 < last.0
rising-below [] last up row h = absurd h
rising-below (first ∷ rows) last up row (inl e) =
    rw (← e) (all-has (λ (other : ℕ × ℕ). first.0 < other.0) (rows ++ last ∷ []) last up.0 (into-append rows (last ∷ []) last (inr (inl refl))))
rising-below (first ∷ rows) last up row (inr h) = rising-below rows last up.1 row h

-- what holds of pairs while they are taken from the end, and of those that were
pub record AreTaken (all rows : Pairs) (cells : List ℕ) (others : Pairs) : Type 0 where
  pub moved : IsPermutation all (rows ++ pairs_held cells others)
  pub rising : IsRising rows
  pub below : (row other : ℕ × ℕ) → Has row rows → Has other (pairs_held cells others) → row.0 < other.0
  pub first : AreFirst cells others

-- before any is taken
pub taken-none : (all : Pairs) (cells : List ℕ) → IsRising all → pairs_in_cells 0 cells ≡ [] → AreTaken all all cells []
taken-none all cells up none = record {
  moved = rw (none, append-nil) (IsPermutation-refl all);
  rising = up;
  below = λ row other h there. absurd (rw none at there);
  first = all-from (IsAbove cells) [] (λ other h. absurd h);
}

-- if no cell has a pointer, each of the others is first
pub first-none : (cells : List ℕ) (others : Pairs) → pairs_in_cells 0 cells ≡ [] → AreFirst cells others
first-none cells others none = all-from (IsAbove cells) others (λ other h p is. absurd (rw none at (first-in_cells cells other.1 p is)))

pub taken-more : (all rows before : Pairs) (last : ℕ × ℕ) (cells : List ℕ) (others : Pairs) (after : List ℕ) (others_after : Pairs)
    → before ≡ rows ++ last ∷ [] → AreTaken all before cells others → IsTaken last cells others after others_after → AreTaken all rows after others_after
taken-more all rows before last cells others after others_after is taken step =
    let taken' : AreTaken all (rows ++ last ∷ []) cells others = rw is at taken in
    let moved = put-moved last cells after step.left others step.put in
    rw step.kept (record {
      moved = IsPermutation-trans _ _ _ (subst (IsPermutation all) (append_assoc rows (last ∷ []) (pairs_held cells others)) taken'.moved)
          (IsPermutation-append_right rows (last ∷ pairs_held cells others) _ moved);
      rising = rising-front rows last taken'.rising;
      below = λ row other h there.
          let held = within-permutation _ (last ∷ pairs_held cells others) (IsPermutation-sym _ _ moved) other there in
          let low = rising-below rows last taken'.rising row h in
          grind (arith, held, low, taken'.below row other (into-append rows (last ∷ []) row (inl h)));
      first = put-first last cells after step.left others step.put taken'.first
          (λ other h. taken'.below last other (into-append rows (last ∷ []) last (inr (inl refl))) h);
    })

-- the others are as small as all
pub others-small : (all rows : Pairs) (cells : List ℕ) (others : Pairs) (limit : ℕ) → AreTaken all rows cells others
    → All (λ pair. pair.0 ≤ limit) all → All (λ pair. pair.0 ≤ limit) others
others-small all rows cells others limit taken small =
    all-from (λ (pair : ℕ × ℕ). pair.0 ≤ limit) others (λ pair h.
    all-has (λ (pair : ℕ × ℕ). pair.0 ≤ limit) _ pair
    (All-permutation (λ (pair : ℕ × ℕ). pair.0 ≤ limit) all (rows ++ pairs_held cells others) taken.moved small)
    (into-append rows (pairs_held cells others) pair (inr (held cells others pair (inr h)))))

-- once all were taken, and the others put in order
pub all-held : (all rows : Pairs) (cells : List ℕ) (others sorted : Pairs) → AreTaken all rows cells others → rows ≡ []
    → IsPermutation others sorted → IsPermutation all (pairs_held cells sorted)
all-held all rows cells others sorted taken none order =
    IsPermutation-trans _ _ _ (subst (λ (pairs : Pairs). IsPermutation all (pairs ++ pairs_held cells others)) none taken.moved)
    (IsPermutation-append_right (pairs_in_cells 0 cells) others sorted order)

pub first-sorted : (cells : List ℕ) (others sorted : Pairs) → AreFirst cells others → IsPermutation others sorted → AreFirst cells sorted
first-sorted cells others sorted firsts order = All-permutation (IsAbove cells) others sorted order firsts
