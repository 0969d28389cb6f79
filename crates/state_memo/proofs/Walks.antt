-- Walks over runs.
use Rattle.std.proofs.Common.{◌≡◌, refl, sym, ap, ◌∙◌, ℕ, zero, suc, ◌+◌, ◌-◌, ◌*◌, ◌/◌, ◌<◌, ◌≤◌, List, [], ◌∷◌, ◌++◌, length, length-append, arith, ℤ, pos}
use Rattle.std.proofs.Common.{◌+ℤ◌, ◌-ℤ◌, Bool, true, false, cond, Option, Some, None, nat_lt, drop, inl, inr, get_or, slice_get, append-nil, option_map}
use Rattle.std.proofs.lemmas.{List.at_drop_more, Nat.mul-le}
use Rattle.std.proofs.Math.Nat.{div-lt_iff_lt-mul, div-mul-le_self, mod-add-div', mod-lt, suc-mul}
use Rattle.state_memo.proofs.Prelude.{cases_lt, ints, nat_tests, le_z, one_if, Ended, ItemKind, Run, AsciiOne, errors_in, all_scalars, scalars_before, item_of}
use Rattle.state_memo.proofs.Prelude.{scalars_of, error_of, item_of_kind, items_until, items_of_run, items_of_runs, slice_get-get_or, cond_both}
use Rattle.state_memo.proofs.Splitting.{length-until}
use Rattle.lemmas.proofs.{Lists.first-rest, Lists.get-back, Lists.get-front, Lists.none-first, Recursion.sum-append, Recursion.sum-few}

-- what a run is read as if there is none
abbrev pub no_run : Run
no_run = record { last = pos 0; more = 0; step = 0; kind = AsciiOne }

pub scalars-append : (a b : List Ended) → all_scalars (a ++ b) ≡ all_scalars a + all_scalars b
scalars-append = sum-append all_scalars _ refl (λ _ _. refl)

pub before-append : (limit : ℤ) (a b : List Ended) → scalars_before limit (a ++ b) ≡ scalars_before limit a + scalars_before limit b
before-append limit = sum-append (scalars_before limit) _ refl (λ _ _. refl)

pub errors-append : (a b : List Ended) → errors_in (a ++ b) ≡ errors_in a + errors_in b
errors-append = sum-append errors_in _ refl (λ _ _. refl)

-- no error if there was none and none follows
pub no-errors-more : (old new add : List Ended) → new ≡ old ++ add → errors_in old ≡ 0 → errors_in add ≡ 0 → errors_in new ≡ 0
no-errors-more old new add e a b = ap errors_in e ∙ omega (arith, errors-append old add, a, b)

pub scalars-until : (kind : ItemKind) (step : ℕ) (last : ℤ) (n : ℕ) → all_scalars (items_until kind step last n) ≡ n * (scalars_of kind)
scalars-until kind step last zero = omega arith
scalars-until kind step last (suc n) =
    rw (scalars-append, scalars-until kind step (last -ℤ pos step) n) (omega (arith, suc-mul n (scalars_of kind)))

pub errors-until : (kind : ItemKind) (step : ℕ) (last : ℤ) (n : ℕ) → errors_in (items_until kind step last n) ≡ n * one_if (error_of kind)
errors-until kind step last zero = omega arith
errors-until kind step last (suc n) =
    rw (errors-append, errors-until kind step (last -ℤ pos step) n) (omega (arith, suc-mul n (one_if (error_of kind))))

-- all end at or before the limit
pub before-all : (kind : ItemKind) (step : ℕ) (limit last : ℤ) (n : ℕ) → le_z last limit ≡ true
    → scalars_before limit (items_until kind step last n) ≡ n * (scalars_of kind)
before-all kind step limit last zero e = omega arith
before-all kind step limit last (suc n) e =
    let next : le_z (last -ℤ pos step) limit ≡ true = grind (arith, ints) in
    rw (before-append limit, before-all kind step limit (last -ℤ pos step) n next, e) (omega (arith, suc-mul n (scalars_of kind)))

-- the last p of them end after the limit
pub record IsPast (last limit : ℤ) (step p : ℕ) : Type 0 where
  pub near : le_z last (limit +ℤ pos (p * step)) ≡ true
  pub far : (q : ℕ) → p ≡ suc q → le_z last (limit +ℤ pos (q * step)) ≡ false

pub before-past : (kind : ItemKind) (step : ℕ) (limit last : ℤ) (n p : ℕ) → IsPast last limit step p
    → scalars_before limit (items_until kind step last n) ≡ (n - p) * (scalars_of kind)
before-past kind step limit last n zero h =
    let e : le_z last limit ≡ true = ap (λ (l : ℤ). le_z last l) (omega (arith, ints)) ∙ h.near in
    before-all kind step limit last n e ∙ ap (λ (k : ℕ). k * (scalars_of kind)) (omega arith)
before-past kind step limit last zero (suc p) h = let none : 0 - suc p ≡ 0 = omega arith in rw none (omega arith)
before-past kind step limit last (suc n) (suc p) h =
    let last_far : le_z last limit ≡ false = grind (arith, ints, h.far p refl) in
    let rest : suc n - suc p ≡ n - p = omega arith in
    let next : IsPast (last -ℤ pos step) limit step p = record {
      near = grind (arith, ints, suc-mul p step, h.near);
      far = λ q e. grind (arith, ints, ap (λ (k : ℕ). k * step) e ∙ suc-mul q step, h.far p refl);
    } in
    rw (before-append limit, before-past kind step limit (last -ℤ pos step) n p next, last_far, rest) (omega arith)

-- all end after the limit, as the first of them does
pub before-far : (kind : ItemKind) (step : ℕ) (limit last : ℤ) (rest gap : ℕ) → last ≡ limit +ℤ pos gap → rest * step < gap
    → scalars_before limit (items_until kind step last (suc rest)) ≡ 0
before-far kind step limit last zero gap e h =
    let behind : le_z last limit ≡ false = grind (arith, ints, e, h) in
    rw behind refl
before-far kind step limit last (suc rest) gap e h =
    let behind : le_z last limit ≡ false = grind (arith, ints, e, h) in
    let m = suc-mul rest step in
    let near : last -ℤ pos step ≡ limit +ℤ pos (gap - step) = omega (arith, ints, e, h, m) in
    rw (before-append limit, before-far kind step limit (last -ℤ pos step) rest (gap - step) near (omega (arith, h, m)), behind) refl

pub before-gap : (kind : ItemKind) (step : ℕ) (limit last : ℤ) (n gap p : ℕ) → last ≡ limit +ℤ pos gap → gap ≤ p * step
    → ((q : ℕ) → p ≡ suc q → q * step < gap) → scalars_before limit (items_until kind step last n) ≡ (n - p) * (scalars_of kind)
before-gap kind step limit last n gap p e near far =
    before-past kind step limit last n p (record { near = grind (arith, ints, e, near); far = λ q is. grind (arith, ints, e, far q is) })

-- the number of an item in a run: from the front, all of one width
pub front-item : (a b : List Ended) (n : ℕ) → n < all_scalars a → item_of (a ++ b) n ≡ item_of a n
front-item [] b n h = absurd (omega (arith, h))
front-item (e ∷ a) b n h =
    by_test (nat_lt n e.scalars) (λ t. ap (λ o. option_map (λ k. k + 1) o) (front-item a b (n - e.scalars) (grind (arith, nat_tests, h, t))))
  where
    by_test : {x y : Option ℕ} (t : Bool) → (t ≡ false → x ≡ y) → cond t (Some 0) x ≡ cond t (Some 0) y
    by_test t f = grind (arith, f)

plus-one : (o : Option ℕ) (n : ℕ) → option_map (λ k. k + 1) (option_map (λ k. k + n) o) ≡ option_map (λ k. k + suc n) o
plus-one o n = grind arith

pub back-item : (a b : List Ended) (n : ℕ) → all_scalars a ≤ n → item_of (a ++ b) n ≡ option_map (λ k. k + length a) (item_of b (n - all_scalars a))
back-item [] b n h = ap (item_of b) (omega arith) ∙ plus-none (item_of b (n - 0))
  where
    plus-none : (o : Option ℕ) → o ≡ option_map (λ k. k + 0) o
    plus-none o = grind arith
back-item (e ∷ a) b n h =
    let t : nat_lt n e.scalars ≡ false = grind (arith, nat_tests, h) in
    let less : n - e.scalars - all_scalars a ≡ n - (e.scalars + all_scalars a) = omega arith in
    rw (t, back-item a b (n - e.scalars) (omega (arith, h)), less) (plus-one (item_of b (n - (e.scalars + all_scalars a))) (length a))

-- which item of a run has code point n
pub run-item : (kind : ItemKind) (step : ℕ) (last : ℤ) (count n k : ℕ) → k < count → k * (scalars_of kind) ≤ n
    → n < k * (scalars_of kind) + (scalars_of kind) → item_of (items_until kind step last count) n ≡ Some k
run-item kind step last zero n k h low high = absurd (omega (arith, h))
run-item kind step last (suc count) n k h low high =
    let front = items_until kind step (last -ℤ pos step) count in
    elim (cases_lt k count) [
      | inl l ↦
          let few = mul-le (suc k) (scalars_of kind) count (scalars_of kind) (omega (arith, l)) (omega arith) in
          let all = scalars-until kind step (last -ℤ pos step) count in
          front-item front (item_of_kind kind last ∷ []) n (omega (arith, all, few, suc-mul k (scalars_of kind), high))
          ∙ run-item kind step (last -ℤ pos step) count n k l low high
      | inr g ↦
          let same : k ≡ count = omega (arith, h, g) in
          let all : all_scalars front ≡ k * scalars_of kind = rw same (scalars-until kind step (last -ℤ pos step) count) in
          let here : nat_lt (n - all_scalars front) (scalars_of kind) ≡ true = grind (arith, nat_tests, all, low, high) in
          back-item front (item_of_kind kind last ∷ []) n (omega (arith, all, low))
          ∙ rw here (ap Some (omega (arith, length-until kind step (last -ℤ pos step) count, same)))
    ]

abbrev pub IsQuotient : ℕ → ℕ → ℕ → Type 0
IsQuotient n m q = (q * m ≤ n) × (n < q * m + m)

pub quotient : (n m : ℕ) → 0 < m → IsQuotient n m (n / m)
quotient n m h = (div-mul-le_self n m, omega (arith, mod-add-div' n m, mod-lt n h))

-- how many of them end after the limit, by a division
pub before-div : (r : Run) (limit : ℤ) (gap step : ℕ) → step ≡ r.step → 0 < step → 0 < gap → r.last ≡ limit +ℤ pos gap
    → scalars_before limit (items_of_run r) ≡ (suc r.more - ((gap - 1) / step + 1)) * scalars_of r.kind
before-div r limit gap step same some gap_some e =
    let q = quotient (gap - 1) step some in
    let p = (gap - 1) / step in
    before-gap r.kind r.step limit r.last (suc r.more) gap (p + 1) e
    (rw (sym same) (omega (arith, gap_some, q.1)))
    (λ k is. let k_is : k ≡ p = omega (arith, is) in rw (k_is, sym same) (omega (arith, gap_some, q.0)))

pub rest-none : (count c s : ℕ) → c ≡ count → 0 ≡ (count - c) * s
rest-none count c s e = let none : count - count ≡ 0 = omega arith in rw (e, none) (omega arith)

pub before-few : (limit : ℤ) (es : List Ended) → scalars_before limit es ≤ all_scalars es
before-few limit [] = omega arith
before-few limit (e ∷ es) =
    omega (arith, cond_both (le_z e.end limit) e.scalars 0 (λ n. n ≤ e.scalars) (λ _. omega arith) (λ _. omega arith), before-few limit es)

-- ---- as the program counts them

pub run-scalars : (r : Run) (n s : ℕ) → n ≡ r.more → s ≡ scalars_of r.kind → (n + 1) * s ≡ all_scalars (items_of_run r)
run-scalars r n s e f =
    rw (e, f, scalars-until r.kind r.step r.last (suc r.more)) (omega arith)

pub run-errors : (r : Run) (n : ℕ) → error_of r.kind ≡ true → n ≡ r.more → n + 1 ≡ errors_in (items_of_run r)
run-errors r n e n_is = let all : suc r.more * one_if (error_of r.kind) ≡ suc r.more = rw e (omega arith) in
    omega (arith, n_is, all, errors-until r.kind r.step r.last (suc r.more))

pub run-no-errors : (r : Run) → error_of r.kind ≡ false → 0 ≡ errors_in (items_of_run r)
run-no-errors r e = let none : suc r.more * one_if (error_of r.kind) ≡ 0 = rw e (omega arith) in
    omega (arith, none, errors-until r.kind r.step r.last (suc r.more))

some-scalars : (kind : ItemKind) → 0 < scalars_of kind
some-scalars kind = grind arith

pub found-in : (r : Run) (n s : ℕ) → s ≡ scalars_of r.kind → n < all_scalars (items_of_run r) → item_of (items_of_run r) n ≡ Some (n / s)
found-in r n s e h =
    let some = some-scalars r.kind in
    let q = quotient n (scalars_of r.kind) some in
    let within = (div-lt_iff_lt-mul some).1 (rw (scalars-until r.kind r.step r.last (suc r.more)) at h) in
    rw e (run-item r.kind r.step r.last (suc r.more) n (n / scalars_of r.kind) within q.0 q.1)

-- ---- over all runs

-- the run at a place, and those after it
pub items-next : (rs : List Run) (i : ℕ) → i < length rs
    → items_of_runs (drop i rs) ≡ items_of_run (get_or rs i no_run) ++ items_of_runs (drop (i + 1) rs)
items-next rs i h = at_drop_more (λ (xs : List Run). items_of_runs xs) rs i no_run h

-- the first run, and those after it
pub items-first : (rs : List Run) (r : Run) → Some r ≡ slice_get rs 0 → items_of_runs rs ≡ items_of_run r ++ items_of_runs (drop 1 rs)
items-first rs r is = ap (λ (xs : List Run). items_of_runs xs) (first-rest rs r (sym is))

pub items-none : (rs : List Run) → None ≡ slice_get rs 0 → items_of_runs rs ≡ []
items-none rs none = ap (λ (xs : List Run). items_of_runs xs) (none-first rs (sym none))

pub count-is : (r : Run) → length (items_of_run r) ≡ r.more + 1
count-is r = omega (arith, length-until r.kind r.step r.last (suc r.more))

pub none-last : (rs : List Run) → slice_get rs (length rs - 1) ≡ None → rs ≡ []
none-last [] h = refl
none-last (x ∷ rs) h = let some = slice_get-get_or (x ∷ rs) (length (x ∷ rs) - 1) x (omega arith) in absurd cc

-- the last item
pub last-behind : (a b : List Ended) (x : Ended) → slice_get b (length b - 1) ≡ Some x → slice_get (a ++ b) (length (a ++ b) - 1) ≡ Some x
last-behind a [] x h = absurd cc
last-behind a (y ∷ b) x h =
    ap (slice_get (a ++ y ∷ b)) (omega (arith, length-append a (y ∷ b)))
    ∙ get-back a (y ∷ b) (length a + length b) (omega arith)
    ∙ ap (slice_get (y ∷ b)) (omega arith) ∙ h

pub last-item : (rs : List Run) (r : Run) → slice_get rs (length rs - 1) ≡ Some r
    → slice_get (items_of_runs rs) (length (items_of_runs rs) - 1) ≡ Some (item_of_kind r.kind r.last)
last-item [] r h = absurd cc
last-item (x ∷ []) r h =
    let e : x ≡ r = cc in
    rw (append-nil (items_of_run x), ← e)
    (last-behind (items_until x.kind x.step (x.last -ℤ pos x.step) x.more) (item_of_kind x.kind x.last ∷ []) (item_of_kind x.kind x.last) refl)
last-item (x ∷ y ∷ rs) r h =
    let one_less : suc (suc (length rs) - 1) ≡ suc (suc (length rs)) - 1 = omega arith in
    last-behind (items_of_run x) (items_of_runs (y ∷ rs)) (item_of_kind r.kind r.last) (last-item (y ∷ rs) r (ap (slice_get (x ∷ y ∷ rs)) one_less ∙ h))

-- ---- the item of a code point

pub item-within : (es : List Ended) (n k : ℕ) → item_of es n ≡ Some k → k < length es
item-within [] n k h = absurd cc
item-within (e ∷ es) n k h = by_test (nat_lt n e.scalars) (item_of es (n - e.scalars)) h (λ j. item-within es (n - e.scalars) j)
  where
    by_test : (t : Bool) (o : Option ℕ) → cond t (Some 0) (option_map (λ j. j + 1) o) ≡ Some k → ((j : ℕ) → o ≡ Some j → j < length es) → k < suc (length es)
    by_test t o e f = grind (arith, f)

found-front : (a b : List Ended) (n k : ℕ) → item_of a n ≡ Some k → item_of (a ++ b) n ≡ Some k
found-front [] b n k h = absurd cc
found-front (e ∷ a) b n k h = by_test (nat_lt n e.scalars) (item_of a (n - e.scalars)) (item_of (a ++ b) (n - e.scalars)) h
    (λ j. found-front a b (n - e.scalars) j)
  where
    by_test : (t : Bool) (o p : Option ℕ) → cond t (Some 0) (option_map (λ j. j + 1) o) ≡ Some k → ((j : ℕ) → o ≡ Some j → p ≡ Some j)
        → cond t (Some 0) (option_map (λ j. j + 1) p) ≡ Some k
    by_test t o p e f = grind (arith, f)

pub length-few-until : (kind : ItemKind) (step : ℕ) (last : ℤ) (n : ℕ) → length (items_until kind step last n) ≤ all_scalars (items_until kind step last n)
length-few-until kind step last n =
    omega (arith, length-until kind step last n, scalars-until kind step last n, mul-le n 1 n (scalars_of kind) (omega arith) (some-scalars kind))

pub length-few : (rs : List Run) → length (items_of_runs rs) ≤ all_scalars (items_of_runs rs)
length-few [] = omega arith
length-few (r ∷ rs) =
    rw (length-append, scalars-append) (omega (arith, length-few-until r.kind r.step r.last (suc r.more), length-few rs))

-- an item has a code point, and one error at most
pub errors-few : (rs : List Run) → errors_in (items_of_runs rs) ≤ all_scalars (items_of_runs rs)
errors-few rs =
    let one : (e : Ended) → one_if e.error ≤ 1 = λ e. cond_both e.error 1 0 (λ n. n ≤ 1) (λ _. omega arith) (λ _. omega arith) in
    omega (arith, length-few rs, sum-few errors_in _ refl (λ _ _. refl) 1 one (items_of_runs rs))

pub plus-plus : (o : Option ℕ) (a b : ℕ) → option_map (λ k. k + b) (option_map (λ k. k + a) o) ≡ option_map (λ k. k + (b + a)) o
plus-plus o a b = grind arith

-- ---- one run, and the items of those behind it

pub run-within : (r : Run) (n k : ℕ) → item_of (items_of_run r) n ≡ Some k → k < r.more + 1
run-within r n k h = omega (arith, item-within (items_of_run r) n k h, count-is r)

module _ (r : Run) (all rest : List Ended) (parts : all ≡ items_of_run r ++ rest) where
  pub before-next : (limit : ℤ) → scalars_before limit all ≡ scalars_before limit (items_of_run r) + scalars_before limit rest
  before-next limit = rw parts (before-append limit (items_of_run r) rest)

  pub errors-next : errors_in all ≡ errors_in (items_of_run r) + errors_in rest
  errors-next = rw parts (errors-append (items_of_run r) rest)

  pub length-next : length all ≡ r.more + 1 + length rest
  length-next = omega (arith, ap length parts, length-append (items_of_run r) rest, count-is r)

  -- an item by its number
  pub get-here : (left : ℕ) → left < r.more + 1 → slice_get (items_of_run r) left ≡ slice_get all left
  get-here left few = rw parts (sym (get-front (items_of_run r) rest left (omega (arith, few, count-is r))))

  pub get-next : (left : ℕ) → r.more + 1 ≤ left → slice_get rest (left - (r.more + 1)) ≡ slice_get all left
  get-next left many = rw (parts, get-back (items_of_run r) rest left (omega (arith, many, count-is r)), count-is r) refl

  -- the item of a code point
  pub found-here : (left k before : ℕ) → item_of (items_of_run r) left ≡ Some k → option_map (λ j. j + before) (item_of all left) ≡ Some (before + k)
  found-here left k before e = rw (parts, found-front (items_of_run r) rest left k e) (ap Some (omega arith))

  pub found-next : (left before : ℕ) → all_scalars (items_of_run r) ≤ left
      → option_map (λ j. j + (before + (r.more + 1))) (item_of rest (left - all_scalars (items_of_run r))) ≡ option_map (λ j. j + before) (item_of all left)
  found-next left before past =
      rw (parts, back-item (items_of_run r) rest left past, count-is r) (sym (plus-plus (item_of rest _) (r.more + 1) before))
