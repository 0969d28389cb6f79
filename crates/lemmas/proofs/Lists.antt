-- Lists, by the places of their elements.
use Rattle.std.proofs.Common.{◌≡◌, refl, sym, ap, ◌∙◌, ℕ, zero, suc, ◌+◌, ◌-◌, ◌<◌, ◌≤◌, List, [], ◌∷◌, ◌++◌, length, take, drop, slice_get, get_or, Some, None}
use Rattle.std.proofs.Common.{arith, length-append, length-drop, take_all}
use Rattle.std.proofs.Math.Seq.{drop-cons, take-suc}
use Rattle.std.proofs.lemmas.{List.get_or-drop, Option.get_or_from_slice_get, Option.slice_get_read, Option.slice_get_within, Slice.take-put_mid}
use borrow.Rule.Slice.PartMut.{put_mid}

pub element : {X : Type 0} (xs : List X) (k : ℕ) → k < length xs → (x : X) × (slice_get xs k ≡ Some x)
element [] k less = absurd (omega (arith, less))
element (x ∷ xs) zero less = (x, refl)
element (x ∷ xs) (suc k) less = element xs k (omega (arith, less))

pub none-first : {X : Type 0} (xs : List X) → slice_get xs 0 ≡ None → xs ≡ []
none-first [] h = refl
none-first (x ∷ xs) h = absurd cc

-- the first element and those after it, which are fewer
pub first-rest : {X : Type 0} (xs : List X) (x : X) → slice_get xs 0 ≡ Some x → xs ≡ x ∷ drop 1 xs
first-rest [] x h = absurd cc
first-rest (y ∷ xs) x h = let e : y ≡ x = cc in ap (λ (z : _). z ∷ xs) e

pub fewer : {X : Type 0} (xs : List X) (x : X) → slice_get xs 0 ≡ Some x → length (drop 1 xs) < length xs
fewer [] x h = absurd cc
fewer (y ∷ xs) x h = omega arith

pub take-next : {X : Type 0} (xs : List X) (n : ℕ) (x : X) → slice_get xs n ≡ Some x → take (suc n) xs ≡ take n xs ++ x ∷ []
take-next xs n x at = take-suc xs n x (slice_get_within xs n x at) ∙ ap (λ (y : _). take n xs ++ y ∷ []) (get_or_from_slice_get xs n x x at)

pub drop-next : {X : Type 0} (xs : List X) (n : ℕ) (x : X) → slice_get xs n ≡ Some x → drop n xs ≡ x ∷ drop (suc n) xs
drop-next xs n x at = drop-cons xs n x (slice_get_within xs n x at) ∙ ap (λ (y : _). y ∷ drop (suc n) xs) (get_or_from_slice_get xs n x x at)

-- the first of those from a place on, and the rest
pub first-behind : {X : Type 0} (xs ys : List X) (n : ℕ) (x : X) → drop n xs ≡ x ∷ ys → (slice_get xs n ≡ Some x) × (drop (n + 1) xs ≡ ys)
first-behind [] ys zero x e = absurd cc
first-behind [] ys (suc n) x e = absurd cc
first-behind (z ∷ xs) ys zero x e = (cc, cc)
first-behind (z ∷ xs) ys (suc n) x e =
    let rest = first-behind xs ys n x e in
    let k : suc n + 1 ≡ suc (n + 1) = omega arith in
    (rest.0, ap (λ (m : ℕ). drop m (z ∷ xs)) k ∙ rest.1)

-- an element, counted from a place on
pub at-behind : {X : Type 0} (xs : List X) (first n index : ℕ) (x : X) → index ≡ first + n → slice_get xs index ≡ Some x → slice_get (drop first xs) n ≡ Some x
at-behind xs first n index x e at =
    slice_get_read (drop first xs) (length (drop first xs)) n x refl (omega (arith, e, length-drop first xs, slice_get_within xs index x at))
    (sym (get_or-drop first xs n x ∙ ap (λ (k : ℕ). get_or xs k x) (sym e) ∙ get_or_from_slice_get xs index x x at))

pub get-front : {X : Type 0} (xs ys : List X) (n : ℕ) → n < length xs → slice_get (xs ++ ys) n ≡ slice_get xs n
get-front [] ys n l = absurd (omega (arith, l))
get-front (x ∷ xs) ys zero l = refl
get-front (x ∷ xs) ys (suc n) l = get-front xs ys n (omega (arith, l))

pub get-back : {X : Type 0} (xs ys : List X) (n : ℕ) → length xs ≤ n → slice_get (xs ++ ys) n ≡ slice_get ys (n - length xs)
get-back [] ys n l = let e : n - 0 ≡ n = omega arith in ap (λ (k : ℕ). slice_get ys k) (sym e)
get-back (x ∷ xs) ys zero l = absurd (omega (arith, l))
get-back (x ∷ xs) ys (suc n) l = let e : n - length xs ≡ suc n - suc (length xs) = omega arith in get-back xs ys n (omega (arith, l))
    ∙ ap (λ (k : ℕ). slice_get ys k) e

-- the elements from a place on, and one more of them
pub taken-more : {X : Type 0} (xs : List X) (from next : ℕ) (x : X) → from ≤ next → slice_get xs next ≡ Some x
    → take (next + 1 - from) (drop from xs) ≡ take (next - from) (drop from xs) ++ x ∷ []
taken-more xs from next x l at =
    let e : next ≡ from + (next - from) = omega (arith, l) in
    let f : next + 1 - from ≡ suc (next - from) = omega (arith, l) in
    ap (λ (n : ℕ). take n (drop from xs)) f ∙ take-next (drop from xs) (next - from) x (at-behind xs from (next - from) next x e at)

pub length-snoc : {X : Type 0} (xs ys : List X) (x : X) → ys ≡ xs ++ x ∷ [] → length ys ≡ suc (length xs)
length-snoc xs ys x e = ap length e ∙ rw (length-append xs (x ∷ [])) (omega arith)

-- the elements from a place, as a slice of them is borrowed
pub rest-is : {X : Type 0} (n : ℕ) (xs : List X) → take (length xs - n) (drop n xs) ≡ drop n xs
rest-is n xs = take_all (length xs - n) (drop n xs) (omega (arith, length-drop n xs))

pub take-take : {X : Type 0} (n m : ℕ) (xs : List X) → n ≤ m → take n (take m xs) ≡ take n xs
take-take zero m xs l = refl
take-take (suc n) zero xs l = absurd (omega (arith, l))
take-take (suc n) (suc m) [] l = refl
take-take (suc n) (suc m) (x ∷ xs) l = ap (λ (ys : List _). x ∷ ys) (take-take n m xs (omega (arith, l)))

-- a block with more elements, put after those that fill it
pub filled_more : {X : Type 0} (at k n : ℕ) (block put more : List X) → put ≡ more → length more ≡ n → at ≤ length block
    → take (at + n) (put_mid at k block put) ≡ take at block ++ more
filled_more at k n block put more e f l = take-put_mid at k block put (at + n) (rw e (omega (arith, f))) l ∙ ap (λ (t : List _). take at block ++ t) e
