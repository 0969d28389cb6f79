-- Look-ups in pairs that stand in the order of their code points.
use Rattle.std.proofs.Common.{◌≡◌, ℕ, ◌-◌, ◌≤◌, ◌<◌, ◌==◌, true, false, length, get_or, filter, nat_le, ltb, leb, Some, None, refl, subst, ◌≢◌, arith, ⊎_elim}
use Rattle.std.proofs.lemmas.Bool.{cases_lt, ltb-true, ltb-false, eqb-true, eq-eqb, le-leb, leb-true}
use Rattle.index_loader.proofs.Prelude.{IsNonDecreasingBy, IsPartitionPoint, Pairs, least, greatest, pointers_with, row_code_point}
use Rattle.index_loader.proofs.Members.{Has, all-has, key-none, key-some, last-up_to, of-least, has-contains, has-get_or}
use Rattle.index_loader.proofs.Members.{place-has, has-filter, from-filter, has-map, from-map, least-is, greatest-is}
use Rattle.index_loader.specs.Rank.{rank_of, IsLastUpTo, IsOrdered}

-- a pointer of a code point, by its pair
pub has-pointer : (code_point pointer : ℕ) (pairs : Pairs) → Has (pointer, code_point) pairs → Has pointer (pointers_with code_point pairs)
has-pointer code_point pointer pairs h =
    has-map (λ (pair : ℕ × ℕ). pair.0) (filter (λ pair. pair.1 == code_point) pairs) (pointer, code_point)
    (has-filter (λ (pair : ℕ × ℕ). pair.1 == code_point) pairs (pointer, code_point) h (eq-eqb code_point code_point refl))

-- the pair of one of a code point's pointers
pub pair-of_pointer : (code_point pointer : ℕ) (pairs : Pairs) → Has pointer (pointers_with code_point pairs) → Has (pointer, code_point) pairs
pair-of_pointer code_point pointer pairs h =
    let m = from-map (λ (pair : ℕ × ℕ). pair.0) (filter (λ pair. pair.1 == code_point) pairs) pointer h in
    let f = from-filter (λ (pair : ℕ × ℕ). pair.1 == code_point) pairs m.0 m.1 in
    subst (λ (n : ℕ). Has (n, code_point) pairs) m.2 (subst (λ (n : ℕ). Has (m.0.0, n) pairs) (eqb-true m.0.1 code_point f.1) f.0)

-- those of a code point from a bound on begin at this place
abbrev BeginAt : Pairs → ℕ → ℕ → ℕ → Type 0
BeginAt pairs code_point bound at = IsPartitionPoint (λ y. ltb (rank_of y) (rank_of (bound, code_point)) ≡ true)
    (λ y. ltb (rank_of y) (rank_of (bound, code_point)) ≡ false) pairs at

-- the smallest pointer of a code point is the smallest from each bound up to it
pub first-above : (pairs : Pairs) (code_point bound n : ℕ) → Some n ≡ least (pointers_with code_point pairs) → bound ≤ n
    → Some n ≡ least (filter (nat_le bound) (pointers_with code_point pairs))
first-above pairs code_point bound n e within =
    let ns = pointers_with code_point pairs in
    let one = of-least ns (Some n) e in
    least-is _ (Some n) (has-filter (nat_le bound) ns n one.0 (le-leb bound n within), λ m h. one.1 m (from-filter (nat_le bound) ns m h).0)

module _ (pairs : Pairs) (code_point bound at : ℕ) (parts : BeginAt pairs code_point bound at) where
  -- the place of one of a code point's pointers from a bound on
  pointer_place : (n : ℕ) → Has n (filter (nat_le bound) (pointers_with code_point pairs))
      → (k : ℕ) × (at ≤ k) × (k < length pairs) × ((d : ℕ × ℕ) → get_or pairs k d ≡ (n, code_point)) × (bound ≤ n)
  pointer_place n h =
      let f = from-filter (nat_le bound) (pointers_with code_point pairs) n h in
      let within = leb-true bound n f.1 in
      let p = place-has pairs (n, code_point) (pair-of_pointer code_point n pairs f.0) in
      ⊎_elim
      (λ (before : p.0 < at). let low = rw (p.2 (n, code_point)) at (ltb-true _ _ (parts.0 p.0 (n, code_point) (omega arith) before)) in absurd (omega arith))
      (λ (behind : at ≤ p.0). (p.0, behind, p.1, p.2, within))
      (cases_lt p.0 at)

  -- the pair at the place where those of a bound begin, where it has the code point
  pub first-found : IsOrdered pairs → at < length pairs → (pair : ℕ × ℕ) → get_or pairs at pair ≡ pair → pair.1 ≡ code_point
      → Some pair.0 ≡ least (filter (nat_le bound) (pointers_with code_point pairs))
  first-found ordered lt pair is same =
      let high : rank_of (bound, code_point) ≤ rank_of pair = rw is at (ltb-false _ _ (parts.1 at pair (omega arith) lt)) in
      let here : Has (pair.0, code_point) pairs = rw (← same) (rw is at (has-get_or pairs at pair lt)) in
      least-is _ (Some pair.0) (
        has-filter (nat_le bound) (pointers_with code_point pairs) pair.0 (has-pointer code_point pair.0 pairs here) (le-leb bound pair.0 (omega arith)),
        λ n h.
            let p = pointer_place n h in
            let up : rank_of pair ≤ rank_of (n, code_point) = rw (p.3 pair) at (rw is at (ordered.rising at p.0 pair p.1 p.2)) in omega arith,
      )

  -- where the pair there has another code point, there is none
  pub first-other : IsOrdered pairs → at < length pairs → (pair : ℕ × ℕ) → get_or pairs at pair ≡ pair → pair.1 ≢ code_point
      → None ≡ least (filter (nat_le bound) (pointers_with code_point pairs))
  first-other ordered lt pair is other =
      let high : rank_of (bound, code_point) ≤ rank_of pair = rw is at (ltb-false _ _ (parts.1 at pair (omega arith) lt)) in
      let small : pair.0 ≤ 189000 = rw is at (ordered.small at pair lt) in
      least-is _ None (λ n h.
      let p = pointer_place n h in
      let up : rank_of pair ≤ rank_of (n, code_point) = rw (p.3 pair) at (rw is at (ordered.rising at p.0 pair p.1 p.2)) in
      let little : n ≤ 189000 = rw (p.3 pair) at (ordered.small p.0 pair p.2) in omega arith)

  -- nor if there is no pair
  pub first-past : length pairs ≤ at → None ≡ least (filter (nat_le bound) (pointers_with code_point pairs))
  first-past past = least-is _ None (λ n h. let p = pointer_place n h in let a = p.1 in let b = p.2 in omega arith)

-- the order by code point alone
pub rising-code_points : (pairs : Pairs) → IsOrdered pairs → IsNonDecreasingBy (λ (pair : ℕ × ℕ). pair.1) pairs
rising-code_points pairs ordered i j d le lt = let up = ordered.rising i j d le lt in let small = ordered.small j d lt in omega arith

-- what a `partition_point` by code point finds
pub up_to-some : (pairs : Pairs) → IsOrdered pairs → (bound at : ℕ)
    → IsPartitionPoint (λ (y : ℕ × ℕ). leb y.1 bound ≡ true) (λ y. leb y.1 bound ≡ false) pairs at → 0 < at → at ≤ length pairs
    → (pair : ℕ × ℕ) → get_or pairs (at - 1) pair ≡ pair → IsLastUpTo pairs bound (Some pair)
up_to-some pairs ordered bound at parts positive within pair is =
    let last = last-up_to (λ (p : ℕ × ℕ). p.1) rank_of pairs bound at ordered.rising parts positive within pair is in
    record { there = last.0; up_to = last.1; small = rw is at (ordered.small (at - 1) pair (omega arith)); ranks_last = last.2 }

-- the pair with this pointer and code point, among those up to a code point
last_rank : (pairs : Pairs) (bound : ℕ) (last : ℕ × ℕ) → IsLastUpTo pairs bound (Some last) → (pair : ℕ × ℕ) → Has pair pairs
    → pair.1 ≤ bound → rank_of pair ≤ rank_of last
last_rank pairs bound last is pair h = all-has (λ other. other.1 ≤ bound → rank_of other ≤ rank_of last) pairs pair is.ranks_last h

-- the greatest pointer of a code point
pub last-found : (pairs : Pairs) (code_point : ℕ) (pair : ℕ × ℕ) → IsLastUpTo pairs code_point (Some pair) → pair.1 ≡ code_point
    → Some pair.0 ≡ greatest (pointers_with code_point pairs)
last-found pairs code_point pair is same =
    greatest-is _ (Some pair.0) (
      has-pointer code_point pair.0 pairs (rw (← same) (has-contains pairs pair is.there)),
      λ n h. let up = last_rank pairs code_point pair is (n, code_point) (pair-of_pointer code_point n pairs h) (omega arith) in omega arith,
    )

pub last-other : (pairs : Pairs) (code_point : ℕ) (pair : ℕ × ℕ) → IsLastUpTo pairs code_point (Some pair) → pair.1 ≢ code_point
    → None ≡ greatest (pointers_with code_point pairs)
last-other pairs code_point pair is other =
    greatest-is _ None (λ n h.
    let up = last_rank pairs code_point pair is (n, code_point) (pair-of_pointer code_point n pairs h) (omega arith) in
    let small = is.small in let low = is.up_to in omega arith)

pub last-none : (pairs : Pairs) (code_point : ℕ) → IsLastUpTo pairs code_point None → None ≡ greatest (pointers_with code_point pairs)
last-none pairs code_point above =
    greatest-is _ None (λ n h. let high = all-has (λ pair. code_point < pair.1) pairs (n, code_point) above
    (pair-of_pointer code_point n pairs h) in omega arith)

-- the greatest code point up to a bound
pub code_point-found : (rows : Pairs) (bound : ℕ) (row : ℕ × ℕ) → IsLastUpTo rows bound (Some row) → Some row.1 ≡ row_code_point rows bound
code_point-found rows bound row is =
    key-some (λ (r : ℕ × ℕ). r.1) rows bound row (has-contains rows row is.there) is.up_to
    (λ other h le. let up = last_rank rows bound row is other h le in let small = is.small in omega arith)

pub code_point-none : (rows : Pairs) (bound : ℕ) → IsLastUpTo rows bound None → None ≡ row_code_point rows bound
code_point-none rows bound above = key-none (λ (r : ℕ × ℕ). r.1) rows bound (λ row h. all-has (λ r. bound < r.1) rows row above h)
