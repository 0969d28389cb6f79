-- What a filtered or mapped list has, and the least and the greatest of the numbers that a list has.
use Rattle.std.proofs.Common.{◌≡◌, ℕ, zero, suc, ◌-◌, ◌≤◌, ◌<◌, nat_le, leb, Bool, true, false, List, [], ◌∷◌, length, get_or, map, filter, Option, Some}
use Rattle.std.proofs.Common.{IfSome, ◌+◌, ◌&&◌, not, None, refl, ap, arith, ◌⊎◌, inl, inr, ⊎_elim, All, Contains}
use Rattle.std.proofs.lemmas.Bool.{cases_lt, le-leb, leb-true, leb-false, Decides.nat_tests}
use Rattle.std.proofs.lemmas.List.{get_or_default, Elements.All-contains, Sorted.Contains-permutation}
use Rattle.std.specs.List.Sorted.{IsNonDecreasingBy, IsPartitionPoint, IsPermutation}
use Rattle.index_loader.specs.Pairs.{least, lesser, greatest, greater}

-- x is an element
abbrev pub Has : {X : Type 0} → X → List X → Type 0
Has x [] = ⊥
Has x (y ∷ ys) = (y ≡ x) ⊎ Has x ys

-- an element by its place
pub has-get_or : {X : Type 0} (xs : List X) (i : ℕ) (d : X) → i < length xs → Has (get_or xs i d) xs
has-get_or [] i d lt = absurd (omega arith)
has-get_or (x ∷ xs) zero d lt = inl refl
has-get_or (x ∷ xs) (suc i) d lt = inr (has-get_or xs i d (omega arith))

-- the place of an element
pub place-has : {X : Type 0} (xs : List X) (x : X) → Has x xs → (i : ℕ) × (i < length xs) × ((d : X) → get_or xs i d ≡ x)
place-has [] x h = absurd h
place-has (y ∷ ys) x (inl e) = (0, omega arith, λ d. e)
place-has (y ∷ ys) x (inr h) = let p = place-has ys x h in (suc p.0, omega arith, p.2)

pub has-contains : {X : Type 0} (xs : List X) (x : X) → Contains xs x → Has x xs
has-contains xs x c = rw (← c.2) (has-get_or xs c.0 x c.1)

pub contains-has : {X : Type 0} (xs : List X) (x : X) → Has x xs → Contains xs x
contains-has xs x h = let p = place-has xs x h in (p.0, p.1, p.2 x)

-- what holds of each element
pub all-has : {X : Type 0} (P : X → Type 0) (xs : List X) (x : X) → All P xs → Has x xs → P x
all-has P xs x all h = All-contains P xs x all (contains-has xs x h)

pub all-from : {X : Type 0} (P : X → Type 0) (xs : List X) → ((x : X) → Has x xs → P x) → All P xs
all-from P xs each = λ k d lt. each (get_or xs k d) (has-get_or xs k d lt)

-- an element that passes is kept
pub has-filter : {X : Type 0} (test : X → Bool) (xs : List X) (x : X) → Has x xs → test x ≡ true → Has x (filter test xs)
has-filter test [] x h passes = h
has-filter test (y ∷ ys) x h passes = grind (arith, has-filter test ys x)

-- what is kept is an element that passes
pub from-filter : {X : Type 0} (test : X → Bool) (xs : List X) (x : X) → Has x (filter test xs) → Has x xs × (test x ≡ true)
from-filter test [] x h = absurd h
from-filter test (y ∷ ys) x h = grind (arith, from-filter test ys x)

pub has-map : {X Y : Type 0} (f : X → Y) (xs : List X) (x : X) → Has x xs → Has (f x) (map f xs)
has-map f [] x h = absurd h
has-map f (y ∷ ys) x h = grind (arith, has-map f ys x)

-- what a mapped list has comes from an element
pub from-map : {X Y : Type 0} (f : X → Y) (xs : List X) (n : Y) → Has n (map f xs) → (x : X) × Has x xs × (f x ≡ n)
from-map f [] n h = absurd h
from-map f (y ∷ ys) n (inl e) = (y, inl refl, e)
from-map f (y ∷ ys) n (inr h) = let r = from-map f ys n h in (r.0, inr r.1, r.2)

-- the number is in the list, and it is in this order to each; or the list has none
abbrev pub IsFirst : (ℕ → ℕ → Type 0) → List ℕ → Option ℕ → Type 0
IsFirst order ns None = (n : ℕ) → Has n ns → ⊥
IsFirst order ns (Some m) = Has m ns × ((n : ℕ) → Has n ns → order m n)

abbrev pub IsLeast : List ℕ → Option ℕ → Type 0
IsLeast ns o = IsFirst (λ m n. m ≤ n) ns o

abbrev pub IsGreatest : List ℕ → Option ℕ → Type 0
IsGreatest ns o = IsFirst (λ m n. n ≤ m) ns o

least-cons : (n : ℕ) (ns : List ℕ) (o : Option ℕ) → IsLeast ns o → IsLeast (n ∷ ns) (Some (lesser n o))
least-cons n ns None is = grind arith
least-cons n ns (Some m) is = grind arith

pub is-least : (ns : List ℕ) → IsLeast ns (least ns)
is-least [] = λ n h. h
is-least (n ∷ ns) = least-cons n ns (least ns) (is-least ns)

pub of-least : (ns : List ℕ) (o : Option ℕ) → o ≡ least ns → IsLeast ns o
of-least ns o is = rw is (is-least ns)

greatest-cons : (n : ℕ) (ns : List ℕ) (o : Option ℕ) → IsGreatest ns o → IsGreatest (n ∷ ns) (Some (greater n o))
greatest-cons n ns None is = grind arith
greatest-cons n ns (Some m) is = grind arith

pub is-greatest : (ns : List ℕ) → IsGreatest ns (greatest ns)
is-greatest [] = λ n h. h
is-greatest (n ∷ ns) = greatest-cons n ns (greatest ns) (is-greatest ns)

pub of-greatest : (ns : List ℕ) (o : Option ℕ) → o ≡ greatest ns → IsGreatest ns o
of-greatest ns o is = rw is (is-greatest ns)

-- there is one
same-first : (order : ℕ → ℕ → Type 0) (ns : List ℕ) → ((m n : ℕ) → order m n → order n m → m ≡ n) → (o p : Option ℕ) → IsFirst order ns o
    → IsFirst order ns p → o ≡ p
same-first order ns one None None a b = refl
same-first order ns one None (Some n) a b = absurd (a n b.0)
same-first order ns one (Some m) None a b = absurd (b m a.0)
same-first order ns one (Some m) (Some n) a b = ap Some (one m n (a.1 n b.0) (b.1 m a.0))

pub least-is : (ns : List ℕ) (o : Option ℕ) → IsLeast ns o → o ≡ least ns
least-is ns o is = same-first (λ m n. m ≤ n) ns (λ m n a b. omega arith) o (least ns) is (is-least ns)

pub greatest-is : (ns : List ℕ) (o : Option ℕ) → IsGreatest ns o → o ≡ greatest ns
greatest-is ns o is = same-first (λ m n. n ≤ m) ns (λ m n a b. omega arith) o (greatest ns) is (is-greatest ns)

-- every element of one list is one of the other
abbrev pub Within : {X : Type 0} → List X → List X → Type 0
Within {X} xs ys = (x : X) → Has x xs → Has x ys

pub moved-first : (order : ℕ → ℕ → Type 0) (ns ms : List ℕ) (o : Option ℕ) → Within ns ms → Within ms ns → IsFirst order ns o → IsFirst order ms o
moved-first order ns ms None to from none = λ n h. none n (from n h)
moved-first order ns ms (Some m) to from is = (to m is.0, λ n h. is.1 n (from n h))

-- lists with the same elements have the same least
pub least-same : (ns ms : List ℕ) → Within ns ms → Within ms ns → least ns ≡ least ms
least-same ns ms to from = least-is ms (least ns) (moved-first (λ m n. m ≤ n) ns ms (least ns) to from (is-least ns))

-- and the same greatest
pub greatest-same : (ns ms : List ℕ) → Within ns ms → Within ms ns → greatest ns ≡ greatest ms
greatest-same ns ms to from = greatest-is ms (greatest ns) (moved-first (λ m n. n ≤ m) ns ms (greatest ns) to from (is-greatest ns))

pub within-filter : {X : Type 0} (test : X → Bool) (xs ys : List X) → Within xs ys → Within (filter test xs) (filter test ys)
within-filter test xs ys to x h = let r = from-filter test xs x h in has-filter test ys x (to x r.0) r.1

pub within-map : {X Y : Type 0} (f : X → Y) (xs ys : List X) → Within xs ys → Within (map f xs) (map f ys)
within-map f xs ys to n h = let r = from-map f xs n h in rw (← r.2) (has-map f ys r.0 (to r.0 r.1))

-- a list in another order
pub within-permutation : {X : Type 0} (xs ys : List X) → IsPermutation xs ys → Within xs ys
within-permutation xs ys moved x h = has-contains ys x (Contains-permutation xs ys x moved (contains-has xs x h))

-- the greatest key up to a bound, if there is none and if an element has it
pub key-none : {X : Type 0} (key : X → ℕ) (xs : List X) (bound : ℕ) → ((x : X) → Has x xs → bound < key x)
    → None ≡ greatest (filter (λ n. nat_le n bound) (map key xs))
key-none key xs bound above =
    greatest-is _ None (λ n h.
    let f = from-filter (λ n. nat_le n bound) (map key xs) n h in let m = from-map key xs n f.0 in
    let low = leb-true n bound f.1 in let same = m.2 in let high = above m.0 m.1 in omega arith)

pub key-some : {X : Type 0} (key : X → ℕ) (xs : List X) (bound : ℕ) (last : X) → Has last xs → key last ≤ bound
    → ((x : X) → Has x xs → key x ≤ bound → key x ≤ key last) → Some (key last) ≡ greatest (filter (λ n. nat_le n bound) (map key xs))
key-some key xs bound last there within greatest =
    greatest-is _ (Some (key last)) (
      has-filter (λ n. nat_le n bound) (map key xs) (key last) (has-map key xs last there) (le-leb (key last) bound within),
      λ n h.
          let f = from-filter (λ n. nat_le n bound) (map key xs) n h in let m = from-map key xs n f.0 in
          let low = leb-true n bound f.1 in let same = m.2 in let up = greatest m.0 m.1 (omega arith) in omega arith,
    )

-- the last of the elements up to a bound by a key, if an order doesn't fall
pub last-up_to : {X : Type 0} (key rank : X → ℕ) (xs : List X) (bound at : ℕ) → IsNonDecreasingBy rank xs
    → IsPartitionPoint (λ y. leb (key y) bound ≡ true) (λ y. leb (key y) bound ≡ false) xs at → 0 < at → at ≤ length xs → (x : X) → get_or xs (at - 1) x ≡ x
    → Contains xs x × (key x ≤ bound) × All (λ other. key other ≤ bound → rank other ≤ rank x) xs
last-up_to key rank xs bound at rising parts positive within x is = (
  (at - 1, omega arith, is),
  let low = parts.0 (at - 1) x (omega arith) (omega arith) in leb-true (key x) bound (rw is at low),
  λ k d lt le.
      ⊎_elim
      (λ (before : k < at). rw is at (rw (get_or_default xs (at - 1) d x (omega arith)) at (rising k (at - 1) d (omega arith) (omega arith))))
      (λ (behind : at ≤ k). let high = leb-false _ _ (parts.1 k d behind lt) in absurd (omega arith))
      (cases_lt k at),
)

-- ---- numbers that pass a test

module _ (test : ℕ → Bool) (ns : List ℕ) where
  -- what comes first stays so where it passes
  first-kept : (order : ℕ → ℕ → Type 0) (o : Option ℕ) → IfSome o (λ n. test n ≡ true) → IsFirst order ns o → IsFirst order (filter test ns) o
  first-kept order None passes none = λ k h. none k (from-filter test ns k h).0
  first-kept order (Some n) passes one = (has-filter test ns n one.0 passes, λ k h. one.1 k (from-filter test ns k h).0)

  pub least-of : (o : Option ℕ) → IfSome o (λ n. test n ≡ true) → o ≡ least ns → o ≡ least (filter test ns)
  least-of o passes e = least-is (filter test ns) o (first-kept (λ m n. m ≤ n) o passes (of-least ns o e))

  pub greatest-of : (o : Option ℕ) → IfSome o (λ n. test n ≡ true) → o ≡ greatest ns → o ≡ greatest (filter test ns)
  greatest-of o passes e = greatest-is (filter test ns) o (first-kept (λ m n. n ≤ m) o passes (of-greatest ns o e))

-- none is before the range: the least outside it is the least after it
pub least-behind : (low high : ℕ) (ns : List ℕ) (n : ℕ) → Some n ≡ least ns → low ≤ n
    → least (filter (nat_le (high + 1)) ns) ≡ least (filter (λ p. not (nat_le low p && nat_le p high)) ns)
least-behind low high ns n e from =
    let outside : ℕ → Bool = λ p. not (nat_le low p && nat_le p high) in
    least-same _ _
    (λ k h. let r = from-filter (nat_le (high + 1)) ns k h in has-filter outside ns k r.0 (grind (arith, nat_tests, r.1)))
    (λ k h. let r = from-filter outside ns k h in let b = (of-least ns (Some n) e).1 k r.0 in
    has-filter (nat_le (high + 1)) ns k r.0 (grind (arith, nat_tests, r.1)))

-- the greatest is below the bound, so none is at or above it
pub greatest-below : (bound : ℕ) (ns : List ℕ) (n : ℕ) → Some n ≡ greatest ns → n < bound → None ≡ greatest (filter (nat_le bound) ns)
greatest-below bound ns n e low =
    greatest-is (filter (nat_le bound) ns) None (λ k h.
    let r = from-filter (nat_le bound) ns k h in let high = leb-true bound k r.1 in let b = (of-greatest ns (Some n) e).1 k r.0 in omega arith)
