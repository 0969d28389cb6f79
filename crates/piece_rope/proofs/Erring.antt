-- The errors of pieces in a row are those of the document.
use Rattle.state_memo.specs.{declared.kind.ItemKind.ItemKind, declared.kind.ItemKind.TheVariants.AsciiOne, Runs.error_of}
use Rattle.piece_rope.proofs.Prelude.{◌≡◌, refl, sym, ap, ◌∙◌, subst, ℕ, zero, suc, ◌+◌, ◌-◌, ◌<◌, ◌≤◌, Bool, true, false, List, [], ◌∷◌, ◌++◌, take, drop}
use Rattle.piece_rope.proofs.Prelude.{length, map, slice_get, Some, None, MatchOption, arith, append_assoc, length-append, length-drop, take-append-drop}
use Rattle.piece_rope.proofs.Prelude.{add-one, Option, AreFirstOf, ℤ, pos, ◌-ℤ◌, Place, Item, One, Placed, decode, error_place, error_places, mark_length}
use Rattle.piece_rope.proofs.Prelude.{one_if, places, EndedItem, Ended, Outcome, Sum, errors_in, is_an_error, item_of_kind, items_of_run, items_of_runs}
use Rattle.piece_rope.proofs.Prelude.{items_until, Document, decoded, errors_of, decoded_errors, document, Entry, entry_sum, here_of, sums_of, all_errors}
use Rattle.piece_rope.proofs.Prelude.{errors_at, errors_from, last_at, last_from, place_if, AreEnded, AreMade, IsWhole, body_of, tail_of, count_body, ends_at}
use Rattle.piece_rope.proofs.Prelude.{drop_all, take_all, slice_get_within, drop-append-add, IsFirstAbove, joined, no_sum, Setting, Files, bytes_of, IsKept}
use Rattle.piece_rope.proofs.Prelude.{drop-append-le, Run, element, take-next, drop-next, get-front}
use Rattle.piece_rope.specs.{Chained.ChainLaws, Chained.IsChained, Chained.last_to, declared.errors.ErrorCount.ErrorCount, ErrorCount.errors_of_sum}
use Rattle.piece_rope.proofs.{Answering.error_places-append, Bounding.one_few, Counting.found-low, Counting.sums-bytes}
use Rattle.lemmas.proofs.{Lists.first-rest, Lists.none-first, Recursion.sum-append, Recursion.sum-few, Recursion.walk-append}

places-chained : (total from : ℕ) (es : List EndedItem) → IsChained from (places total from es)
places-chained total from [] = tt
places-chained total from (e ∷ es) = (refl, places-chained total (total - e.back) es)

chained : (doc : Document) → IsChained (decoded doc).bom (decoded doc).items
unfolding decode
chained doc = places-chained (length doc.bytes) (mark_length doc.setting doc.bytes) _

chained-split : (from : ℕ) (xs ys : List Placed) → IsChained from (xs ++ ys) → IsChained from xs × IsChained (last_to from xs) ys
chained-split from [] ys f = (tt, f)
chained-split from (x ∷ xs) ys f = let rest = chained-split x.to xs ys f.1 in ((f.0, rest.0), rest.1)

pub chain_laws : ChainLaws
chain_laws = record { parts = chained-split; last = walk-append last_to _ (λ _. refl) (λ _ _ _. refl); items = chained }

error-place : (i : Item) (place : Place) → error_place i place ≡ place_if (is_an_error i) place.from place.to
error-place (One c) place = refl
error-place i place = refl

-- the places of the errors among items, and where the last item ends
ended-places : (base from : ℕ) (ps : List Placed) (es : List Ended) → AreEnded base ps es → IsChained from ps
    → (error_places ps ≡ errors_at base from es) × (last_to from ps ≡ last_at base from es)
ended-places base from [] [] ended f = (refl, refl)
ended-places base from (p ∷ ps) (e ∷ es) ended f =
    let rest = ended-places base p.to ps es ended.1 f.1 in
    let own = error-place p.item (record { from = p.from; to = p.to }) in
    (cc (rest.0, own, ended.0.error, ended.0.end, f.0), cc (rest.1, ended.0.end))
ended-places base from ps es ended f = absurd ended

made-places : (base from : ℕ) (is : List Placed) (ps : List Entry) → AreMade base is (map here_of ps) → IsChained from is
    → (error_places is ≡ errors_from base from ps) × (last_to from is ≡ last_from base from ps)
made-places base from is [] made f = (ap error_places made, ap (last_to from) made)
made-places base from is (p ∷ ps) (own, rest, split, here, more) f =
    let parts = chained-split from own rest (rw split at f) in
    let first = ended-places base from own (here_of p).items here.items parts.0 in
    let later = made-places (base + (here_of p).sum.bytes) (last_at base from (here_of p).items) rest ps more (rw first.1 at parts.1) in
    (cc (error_places-append own rest, first.0, later.0), cc (chain_laws.last from own rest, first.1, later.1))

pub errors-are : (doc : Document) (ps : List Entry) (tail : Outcome) → IsWhole doc (map here_of ps) tail
    → (sums_of ps).bytes ≡ length doc.bytes → errors_of doc ≡ all_errors (decoded doc).bom ps tail
unfolding decoded_errors
errors-are doc ps tail whole bytes =
    let bom = (decoded doc).bom in
    let cut = take-append-drop (count_body doc) (decoded doc).items in
    let parts = chained-split bom (body_of doc) (tail_of doc) (subst (λ (xs : List Placed). IsChained bom xs) (sym cut) (chained doc)) in
    let body = made-places 0 bom (body_of doc) ps whole.made parts.0 in
    let end = ended-places (length doc.bytes) (last_from 0 bom ps) (tail_of doc) tail.items whole.ended.items (rw body.1 at parts.1) in
    cc (cut, error_places-append (body_of doc) (tail_of doc), body.0, end.0)

-- the same of the document that contracts see
pub errors-seen : {files : Files} {setting : Setting} {ps : List Entry} {tail : Outcome} {earlier : Option (List ℕ)} {self : Document}
    → record (document files setting (bytes_of ps)) { earlier = earlier } ≡ self → IsKept files setting ps tail
    → {bom : ℕ} → bom ≡ (decoded self).bom → all_errors bom ps tail ≡ errors_of self
errors-seen {files} {setting} {ps} {tail} view_is kept bom_is =
    ap (λ (n : ℕ). all_errors n ps tail) bom_is
    ∙ sym (subst (λ (d : Document). errors_of d ≡ all_errors (decoded d).bom ps tail) view_is
    (errors-are (document files setting (bytes_of ps)) ps tail kept.whole (sums-bytes ps kept.counted)))

-- ---- reading them

-- items in a row: their errors, and where the last of them ends
pub errors_at-append : (base from : ℕ) (xs ys : List Ended)
    → (errors_at base from (xs ++ ys) ≡ errors_at base from xs ++ errors_at base (last_at base from xs) ys)
    × (last_at base from (xs ++ ys) ≡ last_at base (last_at base from xs) ys)
errors_at-append base from [] ys = (refl, refl)
errors_at-append base from (x ∷ xs) ys =
    let to = ends_at base x.end in
    let rest = errors_at-append base to xs ys in
    (cc (rest.0, append_assoc (place_if x.error from to) (errors_at base to xs) (errors_at base (last_at base to xs) ys)), rest.1)

place-counted : (b : Bool) (from to : ℕ) → length (place_if b from to) ≡ one_if b
place-counted true from to = refl
place-counted false from to = refl

pub errors_at-length : (base from : ℕ) (es : List Ended) → length (errors_at base from es) ≡ errors_in es
errors_at-length base from [] = refl
errors_at-length base from (e ∷ es) =
    let to = ends_at base e.end in
    omega (arith, length-append (place_if e.error from to) (errors_at base to es), place-counted e.error from to, errors_at-length base to es)

kind-end : (k : ItemKind) (z : ℤ) → ((item_of_kind k z).end ≡ z) × ((item_of_kind k z).error ≡ (item_of_kind k (pos 0)).error)
kind-end AsciiOne z = (refl, refl)
kind-end k z = (refl, refl)

pub run-last : (base from : ℕ) (r : Run) → last_at base from (items_of_run r) ≡ ends_at base r.last
run-last base from r =
    cc ((errors_at-append base from (items_until r.kind r.step (r.last -ℤ pos r.step) r.more) (item_of_kind r.kind r.last ∷ [])).1, (kind-end r.kind r.last).0)

-- every item is an error
abbrev AreErrors : List Ended → Type 0
AreErrors [] = Unit {0}
AreErrors (e ∷ es) = (e.error ≡ true) × AreErrors es

errors-snoc : (es : List Ended) (e : Ended) → AreErrors es → e.error ≡ true → AreErrors (es ++ e ∷ [])
errors-snoc [] e h k = (k, tt)
errors-snoc (x ∷ es) e h k = (h.0, errors-snoc es e h.1 k)

until-errors : (k : ItemKind) (step : ℕ) (last : ℤ) (n : ℕ) → (item_of_kind k (pos 0)).error ≡ true → AreErrors (items_until k step last n)
until-errors k step last zero e = tt
until-errors k step last (suc n) e =
    errors-snoc (items_until k step (last -ℤ pos step) n) (item_of_kind k last) (until-errors k step (last -ℤ pos step) n e) ((kind-end k last).1 ∙ e)

until-none : (k : ItemKind) (step : ℕ) (last : ℤ) (n : ℕ) → (item_of_kind k (pos 0)).error ≡ false → errors_in (items_until k step last n) ≡ 0
until-none k step last zero e = refl
until-none k step last (suc n) e =
    let before = sum-append errors_in _ refl (λ _ _. refl) (items_until k step (last -ℤ pos step) n) (item_of_kind k last ∷ []) in
    omega (arith, before, until-none k step (last -ℤ pos step) n e, ap one_if ((kind-end k last).1 ∙ e))

-- a run that has an error has errors alone
pub erring : (r : Run) (n : ℕ) → n < errors_in (items_of_run r) → error_of r.kind ≡ true
erring r n l = by_kind (error_of r.kind) refl
  where
    by_kind : (b : Bool) → error_of r.kind ≡ b → error_of r.kind ≡ true
    by_kind true e = e
    by_kind false e = absurd (omega (arith, l, until-none r.kind r.step r.last (suc r.more) e))

pub run-errors : (r : Run) (n : ℕ) → n < errors_in (items_of_run r) → AreErrors (items_of_run r)
run-errors r n l = until-errors r.kind r.step r.last (suc r.more) (erring r n l)

-- the first error, and a later one, of items that are all errors
pub error-first : (base from : ℕ) (es : List Ended) (e : Ended) → AreErrors es → slice_get es 0 ≡ Some e
    → slice_get (errors_at base from es) 0 ≡ Some (record { from = from; to = ends_at base e.end })
error-first base from [] e h at = absurd cc
error-first base from (x ∷ es) e h at = cc (h.0)

pub error-later : (base from n : ℕ) (es : List Ended) (before e : Ended) → AreErrors es → slice_get es n ≡ Some before → slice_get es (suc n) ≡ Some e
    → slice_get (errors_at base from es) (suc n) ≡ Some (record { from = ends_at base before.end; to = ends_at base e.end })
error-later base from n [] before e h at next = absurd cc
error-later base from zero (x ∷ es) before e h at next = cc (h.0, error-first base (ends_at base x.end) es e h.1 next)
error-later base from (suc n) (x ∷ es) before e h at next = cc (h.0, error-later base (ends_at base x.end) n es before e h.1 at next)

-- a run that is one error
pub lone-error : (base from : ℕ) (r : Run) → r.more ≡ 0 → error_of r.kind ≡ true
    → errors_at base from (items_of_run r) ≡ record { from = from; to = ends_at base r.last } ∷ []
lone-error base from r alone error = rw alone (rw error refl)

-- the errors of the first run, and those of the others
pub first-run : (base from : ℕ) (rs : List Run) (r : Run) → slice_get rs 0 ≡ Some r
    → errors_at base from (items_of_runs rs) ≡ errors_at base from (items_of_run r) ++ errors_at base (ends_at base r.last) (items_of_runs (drop 1 rs))
first-run base from rs r h =
    let split = (errors_at-append base from (items_of_run r) (items_of_runs (drop 1 rs))).0 in
    cc (first-rest rs r h, split, run-last base from r)

-- after all runs there is no error
pub no-more : (base from passed : ℕ) (rs : List Run) → slice_get rs 0 ≡ None → drop passed (errors_at base from (items_of_runs rs)) ≡ []
no-more base from passed rs h = rw (none-first rs h) (drop_all passed [] (omega arith))

module _ (base from passed : ℕ) (rs : List Run) (r : Run) (h : slice_get rs 0 ≡ Some r) where
  -- the error that comes next, and those after it
  pub next-found : (found : Option Place) (left : List Place) → passed < errors_in (items_of_run r)
      → found ≡ slice_get (errors_at base from (items_of_run r)) passed → drop passed (errors_at base from (items_of_runs rs)) ≡ left
      → MatchOption found (left ≡ []) (λ place. left ≡ place ∷ drop (passed + 1) (errors_at base from (items_of_runs rs)))
  next-found None left m found_is left_is =
      let p = element (errors_at base from (items_of_run r)) passed (omega (arith, m, errors_at-length base from (items_of_run r))) in
      absurd (cc (p.1, found_is))
  next-found (Some place) left m found_is left_is =
      let own = errors_at base from (items_of_run r) in
      let all = errors_at base from (items_of_runs rs) in
      let later = errors_at base (ends_at base r.last) (items_of_runs (drop 1 rs)) in
      let there : slice_get all passed ≡ Some place =
      cc (first-run base from rs r h, get-front own later passed (slice_get_within own passed place (sym found_is)), found_is) in
      cc (left_is, drop-next all passed place there, add-one passed)

  -- one more run gone past
  pub run-passed-at : (to rest : ℕ) → rest ≡ passed - errors_in (items_of_run r) → errors_in (items_of_run r) ≤ passed → to ≡ ends_at base r.last
      → drop rest (errors_at base to (items_of_runs (drop 1 rs))) ≡ drop passed (errors_at base from (items_of_runs rs))
  run-passed-at to rest rest_is m to_is =
      let own = errors_at base from (items_of_run r) in
      let sum : length own + rest ≡ passed = omega (arith, errors_at-length base from (items_of_run r), rest_is, m) in
      cc (sum, to_is, first-run base from rs r h, drop-append-add own (errors_at base to (items_of_runs (drop 1 rs))) rest)

-- a run without errors is passed
pub other-passed-at : (base from : ℕ) (rs : List Run) (r : Run) → slice_get rs 0 ≡ Some r → errors_in (items_of_run r) ≡ 0
    → errors_at base (ends_at base r.last) (items_of_runs (drop 1 rs)) ≡ errors_at base from (items_of_runs rs)
other-passed-at base from rs r h none = run-passed-at base from 0 rs r h (ends_at base r.last) 0 (omega (arith, none)) (omega (arith, none)) refl

-- ---- over pieces

pub errors_from-append : (base from : ℕ) (xs ys : List Entry) → let behind = base + (sums_of xs).bytes in let last = last_from base from xs in
    (errors_from base from (xs ++ ys) ≡ errors_from base from xs ++ errors_from behind last ys) × (last_from base from (xs ++ ys) ≡ last_from behind last ys)
errors_from-append base from [] ys = let e : base + 0 ≡ base = omega arith in (cc, cc)
errors_from-append base from (x ∷ xs) ys =
    let o = here_of x in
    let e : base + o.sum.bytes + (sums_of xs).bytes ≡ base + (o.sum.bytes + (sums_of xs).bytes) = omega arith in
    let rest = errors_from-append (base + o.sum.bytes) (last_at base from o.items) xs ys in
    (cc (e, rest.0, append_assoc (errors_at base from o.items) _ _), cc (e, rest.1))

pub errors_from-length : (base from : ℕ) (ps : List Entry) → length (errors_from base from ps) ≡ (sums_of ps).errors
errors_from-length base from [] = refl
errors_from-length base from (p ∷ ps) =
    let o = here_of p in
    let rest = errors_from-length (base + o.sum.bytes) (last_at base from o.items) ps in
    omega (arith, rest, length-append {A = Place}, errors_at-length base from o.items, o.summed.errors)

-- an item that there is
pub none-left : (es : List Ended) (n k : ℕ) → n < errors_in es → k ≤ n → slice_get es k ≡ None → ⊥
none-left es n k l m e = let p = element es k (omega (arith, l, m, sum-few errors_in _ refl (λ _ _. refl) 1 (λ (e : Ended). one_few e.error) es)) in cc (p.1)

-- the errors of the pieces from one on and of the end
abbrev pub errors_rest : ℕ → List Entry → Outcome → ℕ → List Place
errors_rest bom ps tail k =
    errors_from (sums_of (take k ps)).bytes (last_from 0 bom (take k ps)) (drop k ps) ++ errors_at (sums_of ps).bytes (last_from 0 bom ps) tail.items

errors-cut : (bom k : ℕ) (ps : List Entry) (tail : Outcome) → all_errors bom ps tail ≡ errors_from 0 bom (take k ps) ++ errors_rest bom ps tail k
errors-cut bom k ps tail =
    let front = errors_from 0 bom (take k ps) in
    let b = (sums_of (take k ps)).bytes in
    let later = errors_from b (last_from 0 bom (take k ps)) (drop k ps) in
    let end = errors_at (sums_of ps).bytes (last_from 0 bom ps) tail.items in
    let zero-b : 0 + b ≡ b = omega arith in
    let cut : errors_from 0 bom ps ≡ front ++ later = cc (zero-b, take-append-drop k ps, (errors_from-append 0 bom (take k ps) (drop k ps)).0) in
    cc (cut, append_assoc front later end)

-- the sum of one piece more, by a number that adds up
sums-next : (measure : Sum → ℕ) → ((a b : Sum) → measure (joined a b) ≡ measure a + measure b) → (ps : List Entry) (k : ℕ) (p : Entry) → slice_get ps k ≡ Some p
    → measure (sums_of (take (suc k) ps)) ≡ measure (sums_of (take k ps)) + measure (here_of p).sum
sums-next measure more [] k p at = absurd cc
sums-next measure more (x ∷ ps) zero p at = let e : x ≡ p = cc in omega (arith, more (entry_sum x) no_sum, ap (λ (y : Entry). measure (entry_sum y)) e)
sums-next measure more (x ∷ ps) (suc k) p at =
    omega (arith, more (entry_sum x) (sums_of (take (suc k) ps)), more (entry_sum x) (sums_of (take k ps)), sums-next measure more ps k p at)

pub bytes-back : (k : ℕ) (ps : List Entry) (p : Entry) → slice_get ps k ≡ Some p
    → (sums_of (take (suc k) ps)).bytes ≡ (sums_of (take k ps)).bytes + (here_of p).sum.bytes
bytes-back k ps p at = sums-next (λ (s : Sum). s.bytes) (λ a b. refl) ps k p at

-- one piece back
pub last-back : (bom k : ℕ) (ps : List Entry) (p : Entry) → slice_get ps k ≡ Some p
    → last_from 0 bom (take (suc k) ps) ≡ last_at (sums_of (take k ps)).bytes (last_from 0 bom (take k ps)) (here_of p).items
last-back bom k ps p at =
    let e : 0 + (sums_of (take k ps)).bytes ≡ (sums_of (take k ps)).bytes = omega arith in
    cc (e, take-next ps k p at, (errors_from-append 0 bom (take k ps) (p ∷ [])).1)

-- those of a piece, and of what is after it
pub errors-next : (bom k : ℕ) (ps : List Entry) (p : Entry) (tail : Outcome) → slice_get ps k ≡ Some p
    → errors_rest bom ps tail k ≡ errors_at (sums_of (take k ps)).bytes (last_from 0 bom (take k ps)) (here_of p).items ++ errors_rest bom ps tail (k + 1)
errors-next bom k ps p tail at =
    let end = errors_at (sums_of ps).bytes (last_from 0 bom ps) tail.items in
    let here = errors_at (sums_of (take k ps)).bytes (last_from 0 bom (take k ps)) (here_of p).items in
    let later = errors_from (sums_of (take (suc k) ps)).bytes (last_from 0 bom (take (suc k) ps)) (drop (suc k) ps) in
    cc (add-one k, drop-next ps k p at, bytes-back k ps p at, last-back bom k ps p at, append_assoc here later end)

module _ (count : ErrorCount) (bom : ℕ) {n k : ℕ} {ps : List Entry} {s : Sum}
    (found : IsFirstAbove (errors_of_sum count) n no_sum joined entry_sum ps k s) where
  low : s.errors ≤ n
  low = found-low (errors_of_sum count) ps n k s refl found

  front-size : length (errors_from 0 bom (take k ps)) ≡ s.errors
  front-size = cc (errors_from-length 0 bom (take k ps), found.sum)

  pub errors-behind : (tail : Outcome) → drop (n - s.errors) (errors_rest bom ps tail k) ≡ drop n (all_errors bom ps tail)
  errors-behind tail =
      let front = errors_from 0 bom (take k ps) in
      let sum : length front + (n - s.errors) ≡ n = omega (arith, front-size, low) in
      cc (errors-cut bom k ps tail, sum, drop-append-add front (errors_rest bom ps tail k) (n - s.errors))

  pub errors-enough : (tail : Outcome) (to : ℕ) → n ≤ to → to ≤ length (all_errors bom ps tail) → n - s.errors + (to - n) ≤ length (errors_rest bom ps tail k)
  errors-enough tail to order within =
      let front = errors_from 0 bom (take k ps) in
      omega (arith, front-size, low, order, within, ap length (errors-cut bom k ps tail), length-append front (errors_rest bom ps tail k))

  pub next-in-piece : (p : Entry) (tail : Outcome) → slice_get ps k ≡ Some p
      → let next = drop (n - s.errors) (errors_at s.bytes (last_from 0 bom (take k ps)) (here_of p).items) in
      AreFirstOf next (drop n (all_errors bom ps tail)) × (0 < length next)
  next-in-piece p tail at =
      let o = here_of p in
      let here = errors_at s.bytes (last_from 0 bom (take k ps)) o.items in
      let more = errors_rest bom ps tail (k + 1) in
      let next = sums-next (λ (t : Sum). t.errors) (λ a b. refl) ps k p at in
      let next_is : (sums_of (take (k + 1) ps)).errors ≡ s.errors + o.sum.errors = cc (add-one k, next, found.sum) in
      let long : length here ≡ o.sum.errors = errors_at-length _ _ o.items ∙ sym o.summed.errors in
      let within : n - s.errors < length here = omega (arith, found.behind (slice_get_within ps k p at), next_is, long, low) in
      let inside = drop-append-le (n - s.errors) here more (omega (arith, within)) in (
        record { others = more; parts = cc (errors-behind tail, errors-next bom k ps p tail at, found.sum, inside) },
        omega (arith, length-drop (n - s.errors) here, within),
      )

  pub next-in-tail : (tail : Outcome) → length ps ≤ k
      → drop n (all_errors bom ps tail) ≡ drop (n - s.errors) (errors_at s.bytes (last_from 0 bom (take k ps)) tail.items)
  next-in-tail tail l = cc (errors-behind tail, drop_all k ps l, take_all k ps l, found.sum)

  pub errors-within : (p : Entry) (tail : Outcome) → slice_get ps k ≡ Some p
      → n - s.errors ≤ length (errors_at s.bytes (last_from 0 bom (take k ps)) (here_of p).items)
  errors-within p tail at =
      omega (arith, (next-in-piece p tail at).1, length-drop (n - s.errors) (errors_at s.bytes (last_from 0 bom (take k ps)) (here_of p).items))

pub bytes-more : (k : ℕ) (ps : List Entry) → (sums_of (take k ps)).bytes ≤ (sums_of ps).bytes
bytes-more zero ps = omega arith
bytes-more (suc k) [] = omega arith
bytes-more (suc k) (p ∷ ps) = omega (arith, bytes-more k ps)

pub items-last : (base from : ℕ) (es : List Ended) (e : Ended) → slice_get es (length es - 1) ≡ Some e → last_at base from es ≡ ends_at base e.end
items-last base from [] e at = absurd cc
items-last base from (x ∷ []) e at = cc
items-last base from (x ∷ y ∷ es) e at =
    let k : suc (length (y ∷ es) - 1) ≡ length (x ∷ y ∷ es) - 1 = omega arith in
    items-last base (ends_at base x.end) (y ∷ es) e (ap (λ (n : ℕ). slice_get (x ∷ y ∷ es) n) k ∙ at)

pub no-items : (es : List Ended) → slice_get es (length es - 1) ≡ None → es ≡ []
no-items [] none = refl
no-items (e ∷ es) none = let p = element (e ∷ es) (length (e ∷ es) - 1) (omega arith) in absurd (cc (p.1))

module _ (bom next : ℕ) (ps : List Entry) (p : Entry) (at : slice_get ps next ≡ Some p) where
  pub end-back : (k base here : ℕ) → k ≡ suc next → base ≡ (sums_of (take k ps)).bytes → here ≡ (here_of p).sum.bytes
      → base - here ≡ (sums_of (take next ps)).bytes
  end-back k base here k_is base_is here_is =
      let sum : (sums_of (take k ps)).bytes ≡ (sums_of (take next ps)).bytes + (here_of p).sum.bytes = cc (bytes-back next ps p at) in
      omega (arith, base_is, here_is, sum)

  pub last-none : (es : List Ended) → es ≡ (here_of p).items → slice_get es (length es - 1) ≡ None
      → last_from 0 bom (take next ps) ≡ last_from 0 bom (take (suc next) ps)
  last-none es own none = cc (last-back bom next ps p at, no-items es none, own)

  pub last-some : (es : List Ended) (e : Ended) (base : ℕ) → es ≡ (here_of p).items → slice_get es (length es - 1) ≡ Some e
      → base ≡ (sums_of (take next ps)).bytes → ends_at base e.end ≡ last_from 0 bom (take (suc next) ps)
  last-some es e base own some base_is = cc (last-back bom next ps p at, items-last base (last_from 0 bom (take next ps)) es e some, own)

-- ---- from one error to the next

-- 1 where a cursor has no error left
abbrev pub ended : List Place → ℕ
ended [] = 1
ended (p ∷ ps) = 0
