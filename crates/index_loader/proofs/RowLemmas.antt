-- Look-ups in rows that stand in the order of their pointers.
use Rattle.std.{proofs.lemmas.Bool.Decides.nat_tests, specs.List.insert}
use Rattle.std.proofs.Common.{◌≡◌, ◌≢◌, ℕ, zero, suc, ◌+◌, ◌-◌, ◌≤◌, ◌<◌, true, false, [], ◌∷◌, length, get_or, leb, Option, Some, None, refl, sym, ap, arith}
use Rattle.std.proofs.Common.{inl, inr, ne_eqb, lt-ltb, le-ltb, leb-false, leb-true, SomeIff, option_and_then, is_some}
use Rattle.index_loader.{proofs.Places.fresh-pointer, proofs.Places.from-inserted, proofs.Places.rising-inserted, specs.Rows.AreRows}
use Rattle.index_loader.proofs.Prelude.{as_scalar, IsRising, IsLastRowUpTo, IsScalar, IsNonDecreasingBy, IsPartitionPoint, Pairs, code_point_at}
use Rattle.index_loader.proofs.Prelude.{code_point_in_row, inserted, row_pointer}
use Rattle.index_loader.proofs.Members.{Has, all-from, all-has, key-none, key-some, last-up_to, has-contains}

-- the pointers don't fall
pub rising-pointers : (rows : Pairs) → IsRising rows → IsNonDecreasingBy (λ (row : ℕ × ℕ). row.0) rows
rising-pointers [] up i j d le lt = absurd (omega arith)
rising-pointers (row ∷ rows) up zero zero d le lt = omega arith
rising-pointers (row ∷ rows) up zero (suc j) d le lt = let above = up.0 j d (omega arith) in omega arith
rising-pointers (row ∷ rows) up (suc i) zero d le lt = absurd (omega arith)
rising-pointers (row ∷ rows) up (suc i) (suc j) d le lt = rising-pointers rows up.1 i j d (omega arith) (omega arith)

-- the code point of a pointer
code_point-beside : (rows : Pairs) → IsRising rows → (pointer code_point : ℕ) → Has (pointer, code_point) rows → code_point_at rows pointer ≡ Some code_point
code_point-beside [] up pointer code_point h = absurd h
code_point-beside (row ∷ rows) up pointer code_point h =
    grind (arith, nat_tests, code_point-beside rows up.1 pointer code_point, all-has (λ other. row.0 < other.0) rows (pointer, code_point) up.0)

pub row-some : (rows : Pairs) → IsRising rows → (bound at : ℕ)
    → IsPartitionPoint (λ (y : ℕ × ℕ). leb y.0 bound ≡ true) (λ y. leb y.0 bound ≡ false) rows at → 0 < at → at ≤ length rows
    → (row : ℕ × ℕ) → get_or rows (at - 1) row ≡ row → IsLastRowUpTo rows bound (Some row)
row-some rows up bound at parts positive within row is =
    let last = last-up_to (λ (r : ℕ × ℕ). r.0) (λ (r : ℕ × ℕ). r.0) rows bound at (rising-pointers rows up) parts positive within row is in
    record { there = last.0; up_to = last.1; last = last.2 }

pointer-found : (rows : Pairs) (bound : ℕ) (row : ℕ × ℕ) → IsLastRowUpTo rows bound (Some row) → row_pointer rows bound ≡ Some row.0
pointer-found rows bound row is =
    sym (key-some (λ (r : ℕ × ℕ). r.0) rows bound row (has-contains rows row is.there) is.up_to
    (λ other h. all-has (λ r. r.0 ≤ bound → r.0 ≤ row.0) rows other is.last h))

pub pointer-none : (rows : Pairs) (bound : ℕ) → IsLastRowUpTo rows bound None → row_pointer rows bound ≡ None
pointer-none rows bound above = sym (key-none (λ (r : ℕ × ℕ). r.0) rows bound (λ row h. all-has (λ r. bound < r.0) rows row above h))

-- what `Scalar::new` answers
as_scalar-is : (n : ℕ) (o : Option ℕ) → SomeIff o (IsScalar n) n → o ≡ as_scalar n
as_scalar-is n None refused = grind arith
as_scalar-is n (Some m) (is, same) = rw (is, same) refl

-- the code point in the row of a pointer
pub code_point-in_row : (rows : Pairs) → IsRising rows → (pointer : ℕ) (row : ℕ × ℕ) → IsLastRowUpTo rows pointer (Some row)
    → (o : Option ℕ) → SomeIff o (IsScalar (row.1 + (pointer - row.0))) (row.1 + (pointer - row.0))
    → o ≡ option_and_then (code_point_in_row rows pointer) (row_pointer rows pointer)
code_point-in_row rows up pointer row is o new =
    rw (pointer-found rows pointer row is, code_point-beside rows up row.0 row.1 (has-contains rows row is.there))
    (as_scalar-is (row.1 + (pointer - row.0)) o new)

-- the row of a pointer, where the last up to it has it
pub found-row : (rows : Pairs) → IsRising rows → (pointer : ℕ) (row : ℕ × ℕ) → IsLastRowUpTo rows pointer (Some row) → row.0 ≡ pointer
    → code_point_at rows pointer ≡ Some row.1
found-row rows up pointer row is same = rw (← same) (code_point-beside rows up row.0 row.1 (has-contains rows row is.there))

absent : (rows : Pairs) (pointer : ℕ) → ((row : ℕ × ℕ) → Has row rows → row.0 ≢ pointer) → code_point_at rows pointer ≡ None
absent [] pointer off = refl
absent (row ∷ rows) pointer off = rw (ne_eqb row.0 pointer (off row (inl refl))) (absent rows pointer (λ other h. off other (inr h)))

-- there is none if the last up to it has another, or there is no row up to it
pub other-row : (rows : Pairs) (pointer : ℕ) (row : ℕ × ℕ) → IsLastRowUpTo rows pointer (Some row) → row.0 ≢ pointer → code_point_at rows pointer ≡ None
other-row rows pointer row is off =
    absent rows pointer (λ other h e. let le : other.0 ≤ row.0 = all-has (λ (r : ℕ × ℕ). r.0 ≤ pointer → r.0 ≤ row.0) rows other is.last h
    (omega (arith, e)) in off (omega (arith, e, is.up_to)))

pub no-row : (rows : Pairs) (pointer : ℕ) → IsLastRowUpTo rows pointer None → code_point_at rows pointer ≡ None
no-row rows pointer above =
    absent rows pointer (λ other h e. let lt : pointer < other.0 = all-has (λ (r : ℕ × ℕ). pointer < r.0) rows other above h in omega (arith, e))

-- a row put at its place
pub put-at : (rows : Pairs) (row : ℕ × ℕ) (at : ℕ)
    → IsPartitionPoint (λ (y : ℕ × ℕ). leb y.0 row.0 ≡ true) (λ y. leb y.0 row.0 ≡ false) rows at → insert rows at row ≡ inserted row rows
put-at [] row zero parts = refl
put-at [] row (suc at) parts = refl
put-at (first ∷ rows) row zero parts = let above = leb-false _ _ (parts.1 0 first (omega arith) (omega arith)) in rw (lt-ltb row.0 first.0 (omega arith)) refl
put-at (first ∷ rows) row (suc at) parts =
    let below = leb-true _ _ (parts.0 0 first (omega arith) (omega arith)) in
    let front = put-at rows row at
    (λ k d low high. parts.0 (suc k) d (omega arith) (omega arith), λ k d low high. parts.1 (suc k) d (omega arith) (omega arith)) in
    rw (le-ltb row.0 first.0 (omega arith), front)

-- a row whose pointer no other has keeps the order
pub inserted-rows : (rows : Pairs) (row : ℕ × ℕ) → AreRows rows → row.0 ≤ 189000 → code_point_at rows row.0 ≡ None → AreRows (inserted row rows)
inserted-rows rows row are small new = (
  rising-inserted row rows are.0 (λ other h. fresh-pointer rows row other (ap is_some new) h),
  all-from (λ (other : ℕ × ℕ). other.0 ≤ 189000) (inserted row rows) (λ other h.
      grind (arith, small, from-inserted row other rows h, all-has (λ (r : ℕ × ℕ). r.0 ≤ 189000) rows other are.1)),
)
