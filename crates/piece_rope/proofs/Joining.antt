-- The sums of the pieces of a document can be joined.
use Rattle.piece_rope.proofs.Prelude.{◌≡◌, refl, ℕ, zero, suc, ◌+◌, ◌*◌, ◌^◌, ◌<◌, ◌≤◌, List, [], ◌∷◌, ◌++◌, take, drop, length, arith, append_assoc}
use Rattle.piece_rope.proofs.Prelude.{length-append, length-remove, length-drop, length-take-le, take-append-drop, remove, Outcome, Sum, joined, Fits, Entry}
use Rattle.piece_rope.proofs.Prelude.{here_of, renewed, AreShort, CanJoin, longest, sums_of}

record IsFew (n : ℕ) (s : Sum) : Type 0 where
  bytes : s.bytes ≤ n * 2048
  utf8 : s.utf8 ≤ n * 16448
  errors : s.errors ≤ n * 16448

sum-few : (o : Outcome) → o.sum.bytes ≤ longest → IsFew 1 o.sum
sum-few o l = record { bytes = omega (arith, l); utf8 = omega (arith, l, o.bounded.utf8); errors = omega (arith, l, o.bounded.errors) }

sums-few : (ps : List Entry) → AreShort ps → IsFew (length ps) (sums_of ps)
sums-few [] s = record { bytes = omega arith; utf8 = omega arith; errors = omega arith }
sums-few (p ∷ ps) s =
    let own = sum-few (here_of p) s.0 in
    let rest = sums-few ps s.1 in
    record { bytes = omega (arith, own.bytes, rest.bytes); utf8 = omega (arith, own.utf8, rest.utf8); errors = omega (arith, own.errors, rest.errors) }

-- sums of so few pieces fit in 32 bits
pub can-fit : (ps : List Entry) → CanJoin ps → Fits (sums_of ps)
can-fit ps c =
    let few = sums-few ps c.short in
    record { bytes = omega (arith, few.bytes, c.few); utf8 = omega (arith, few.utf8, c.few); errors = omega (arith, few.errors, c.few) }

pub short-append : (xs ys : List Entry) → AreShort xs → AreShort ys → AreShort (xs ++ ys)
short-append [] ys a b = b
short-append (x ∷ xs) ys a b = (a.0, short-append xs ys a.1 b)

pub short-parts : (xs ys : List Entry) → AreShort (xs ++ ys) → AreShort xs × AreShort ys
short-parts [] ys s = (tt, s)
short-parts (x ∷ xs) ys s = let rest = short-parts xs ys s.1 in ((s.0, rest.0), rest.1)

short-remove : (n : ℕ) (xs : List Entry) → AreShort xs → AreShort (remove xs n)
short-remove zero [] s = s
short-remove (suc n) [] s = s
short-remove zero (x ∷ xs) s = s.1
short-remove (suc n) (x ∷ xs) s = (s.0, short-remove n xs s.1)

pub join-remove : (n : ℕ) (xs : List Entry) → n < length xs → CanJoin xs → CanJoin (remove xs n)
join-remove n xs l c = record { short = short-remove n xs c.short; few = omega (arith, length-remove xs n l, c.few) }

pub renewed-length : (xs : List Entry) (rs : List Entry) → length rs ≤ length xs → length (renewed xs rs) ≡ length xs
renewed-length xs [] l = refl
renewed-length [] (r ∷ rs) l = absurd (omega (arith, l))
renewed-length (x ∷ xs) (r ∷ rs) l = omega (arith, renewed-length xs rs (omega (arith, l)))

-- pieces that are still to be put in aren't needed
pub join-without : (xs fresh ys : List Entry) → CanJoin (xs ++ (fresh ++ ys)) → CanJoin (xs ++ ys)
join-without xs fresh ys c =
    let parts = short-parts xs (fresh ++ ys) c.short in
    record {
      short = short-append xs ys parts.0 (short-parts fresh ys parts.1).1;
      few = omega (arith, c.few, length-append {A = Entry});
    }

-- the renewed pieces alone put in
pub join-renewed : (ps fresh rs : List Entry) (first last : ℕ) → last + length rs ≤ length ps → CanJoin ps
    → CanJoin (take first ps ++ (fresh ++ renewed (drop last ps) rs)) → CanJoin (take last ps ++ renewed (drop last ps) rs)
join-renewed ps fresh rs first last within old new =
    let parts = short-parts (take last ps) (drop last ps) (rw take-append-drop old.short) in
    let made = short-parts fresh (renewed (drop last ps) rs) (short-parts (take first ps) (fresh ++ renewed (drop last ps) rs) new.short).1 in
    let long = renewed-length (drop last ps) rs (omega (arith, length-drop last ps, within)) in
    record {
      short = short-append (take last ps) (renewed (drop last ps) rs) parts.0 made.1;
      few = omega (arith, old.few, length-append {A = Entry}, length-take-le last ps (omega (arith, within)), length-drop last ps, long);
    }

pub join-inserted : (xs fresh : List Entry) (p : Entry) (first : ℕ) → CanJoin (take first xs ++ ((fresh ++ p ∷ []) ++ drop first xs))
    → CanJoin (take first xs ++ p ∷ drop first xs)
join-inserted xs fresh p first c = join-without (take first xs) fresh (p ∷ drop first xs) (rw append_assoc at c)

-- and with what the end gives
module _ {ps : List Entry} (o : Outcome) (c : CanJoin ps) (none : o.sum.bytes ≡ 0) where
  abbrev all : Sum
  all = joined (sums_of ps) o.sum

  pub whole-fits : Fits all
  whole-fits =
      let few = sums-few ps c.short in
      record {
        bytes = omega (arith, few.bytes, c.few, none);
        utf8 = omega (arith, few.utf8, c.few, none, o.bounded.utf8);
        errors = omega (arith, few.errors, c.few, none, o.bounded.errors);
      }

  pub whole-marks : all.marks + 1 < 2 ^ 64
  whole-marks = omega (arith, all.few_marks, all.few_scalars, (sums-few ps c.short).utf8, c.few, none, o.bounded.utf8)

  pub whole-few : all.scalars < 2 ^ 63
  whole-few = omega (arith, all.few_scalars, (sums-few ps c.short).utf8, c.few, none, o.bounded.utf8)
