-- Runs that are one.
use Rattle.std.proofs.Common.{◌≡◌, refl, sym, ap, ◌∙◌, ℕ, zero, suc, ◌+◌, ◌*◌, ◌<◌, List, ◌∷◌, ◌++◌, append_assoc}
use Rattle.std.proofs.Common.{append-nil, arith, length, length-append, ◌≤◌, ◌-◌, Some, None, slice_get, zero-add, ℤ, pos, ◌+ℤ◌, ◌-ℤ◌}
use Rattle.std.proofs.Math.Nat.{suc-mul}
use Rattle.lemmas.proofs.Lists.{get-back}
use Rattle.state_memo.proofs.Prelude.{ints, Ended, ItemKind, Run, item_of_kind, items_until, items_of_run, slice_get_past}

-- if there is one item, the step between items doesn't count
pub until-step : (kind : ItemKind) (last : ℤ) (n s t : ℕ) → (0 < n → s ≡ t) → items_until kind s last (suc n) ≡ items_until kind t last (suc n)
until-step kind last zero s t e = refl
until-step kind last (suc n) s t e = ap (λ (k : ℕ). items_until kind k last (suc (suc n))) (e (omega arith))

-- the last n of them, and those before
pub until-split : (kind : ItemKind) (s : ℕ) (last : ℤ) (m n : ℕ)
    → items_until kind s last (n + m) ≡ items_until kind s (last -ℤ pos (n * s)) m ++ items_until kind s last n
until-split kind s last m zero =
    let none : last -ℤ pos (0 * s) ≡ last = omega (arith, ints) in
    rw (zero-add, none, append-nil) refl
until-split kind s last m (suc n) =
    let one_more : suc n + m ≡ suc (n + m) = omega arith in
    let back : (last -ℤ pos s) -ℤ pos (n * s) ≡ last -ℤ pos (suc n * s) = omega (arith, ints, suc-mul n s) in
    rw (one_more, until-split kind s (last -ℤ pos s) m n, back, append_assoc) refl

all-steps : (n s t : ℕ) → (0 < n → s ≡ t) → n * s ≡ n * t
all-steps zero s t e = omega arith
all-steps (suc n) s t e = rw (e (omega arith)) refl

meets : (a b : ℤ) (n s t : ℕ) → n * s ≡ n * t → b -ℤ pos (n * t) ≡ a +ℤ pos s → b -ℤ pos (suc n * s) ≡ a
meets a b n s t same e = omega (arith, ints, same, e, suc-mul n s)

-- two runs in a row are one if the second begins as far after the first as its items lie from each other
pub runs-meet : (kind : ItemKind) (a b : ℤ) (m n s t u more : ℕ) → (0 < m → u ≡ s) → (0 < n → u ≡ t) → b -ℤ pos (n * t) ≡ a +ℤ pos u → more ≡ m + n + 1
    → items_until kind u b (suc more) ≡ items_until kind s a (suc m) ++ items_until kind t b (suc n)
runs-meet kind a b m n s t u more first second gap all =
    let count : suc more ≡ suc n + suc m = omega (arith, all) in
    let gap_is = meets a b n u t (all-steps n u t second) gap in
    ap (items_until kind u b) count ∙ until-split kind u b (suc m) (suc n)
    ∙ rw (gap_is, until-step kind a m u s first, until-step kind b n u t second) refl

-- the same of runs as the program has them
pub longer-is : (r next : Run) (last : ℤ) (more step : ℕ) → last ≡ next.last → next.kind ≡ r.kind → more ≡ r.more + next.more + 1
    → next.last -ℤ pos (next.more * next.step) ≡ r.last +ℤ pos step → (0 < r.more → step ≡ r.step) → (0 < next.more → step ≡ next.step)
    → items_until r.kind step last (suc more) ≡ items_of_run r ++ items_of_run next
longer-is r next last more step last_is kind more_is gap front back =
    rw last_is (runs-meet r.kind r.last next.last r.more next.more r.step next.step step more front back gap more_is
    ∙ ap (λ (k : ItemKind). items_of_run r ++ items_until k next.step next.last (suc next.more)) (sym kind))

-- ---- items by their number

-- the first of them
pub first-until : (kind : ItemKind) (s : ℕ) (last : ℤ) (n : ℕ) → items_until kind s last (suc n) ≡ item_of_kind kind (last -ℤ pos (n * s))
    ∷ items_until kind s last n
first-until kind s last n = let add_one : suc n ≡ n + 1 = omega arith in ap (items_until kind s last) add_one ∙ until-split kind s last 1 n

pub length-until : (kind : ItemKind) (s : ℕ) (last : ℤ) (n : ℕ) → length (items_until kind s last n) ≡ n
length-until kind s last zero = refl
length-until kind s last (suc n) =
    rw (length-append, length-until kind s (last -ℤ pos s) n) (omega arith)

pub item-at : (r : Run) (k behind : ℕ) → k ≤ r.more → behind ≡ r.more - k
    → slice_get (items_of_run r) k ≡ Some (item_of_kind r.kind (r.last -ℤ pos (behind * r.step)))
item-at r k behind within behind_is =
    let front = items_until r.kind r.step (r.last -ℤ pos (suc behind * r.step)) k in
    let long : length front ≡ k = length-until r.kind r.step (r.last -ℤ pos (suc behind * r.step)) k in
    let none : k - length front ≡ 0 = omega (arith, long) in
    let all : suc r.more ≡ suc behind + k = omega (arith, within, behind_is) in
    ap (λ (n : ℕ). slice_get (items_until r.kind r.step r.last n) k) all
    ∙ rw (until-split r.kind r.step r.last k (suc behind), get-back front (items_until r.kind r.step r.last (suc behind)) k (omega (arith, long)), none)
    (ap (λ (xs : List Ended). slice_get xs 0) (first-until r.kind r.step r.last behind))

pub no-item : (r : Run) (k : ℕ) → r.more < k → slice_get (items_of_run r) k ≡ None
no-item r k h = slice_get_past (items_of_run r) k (omega (arith, h, length-until r.kind r.step r.last (suc r.more)))
