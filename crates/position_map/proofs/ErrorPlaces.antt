-- The errors of a document with their places, piece by piece and run by run.
use Rattle.std.proofs.Common.{ℕ, ◌≡◌, refl, sym, ap, ◌∙◌, zero, suc, ◌+◌, ◌-◌, ◌<◌, ◌≤◌, inl, inr, true, cond, List, [], ◌∷◌, ◌++◌, length, length-append}
use Rattle.std.proofs.Common.{length-drop, take, drop, take-append-drop, append_assoc, arith, min, Option, Some, add-one}
use Rattle.std.proofs.{Math.Seq.drop-append-add, Math.Seq.take-append_seam, lemmas.List.drop-append-le}
use Rattle.position_map.{specs.ErrorPlaces.end_or, specs.ErrorPlaces.error_ats, proofs.Items.IsPieced}
use Rattle.position_map.proofs.Words.{slice_get, length-map, length-take, drop-drop, Place, Item, One, Two, Error, Placed, code_points, item_code_points}
use Rattle.position_map.proofs.Words.{errors_of, Ended, Outcome, Sum, total_of, AreMade, all_scalars, errors_in, is_an_error, AreEnded, ends_at, Run}
use Rattle.position_map.proofs.Words.{items_of_run, items_of_runs, items_until, item_of_kind, ErrorAt, error_if, errors_from, all_errors, scalar_of}
use Rattle.position_map.proofs.Words.{errors_in_sum, ChainLaws, IsChained, last_to, bom_of, IsPlaced, Pieced, by_le, same_some, none_some, Utf8, by_test}
use Rattle.position_map.proofs.{Chains.cut_around, ErrorPieces.errors-count, ErrorPieces.errors-left, ErrorPieces.none-behind, ErrorPieces.errors-append}
use Rattle.position_map.proofs.ErrorRuns.{AreAlike, either_run, errors-count as errors-in-all, others-count, items-first}
use Rattle.lemmas.proofs.Lists.{take-next, drop-next, element, get-front}

-- ---- lists

-- one more element put after those before
pub one-more : {X : Type 0} (old new all rest : List X) (x : X) (left : ℕ) → new ≡ old ++ x ∷ [] → all ≡ x ∷ rest → 0 < left
    → new ++ take (left - 1) rest ≡ old ++ take left all
one-more old new all rest x zero e d h = absurd (omega (arith, h))
one-more old new all rest x (suc left) e d h = let k : suc left - 1 ≡ left = omega arith in rw (e, d, k) (append_assoc old (x ∷ []) (take left rest))

-- ---- items as they are remembered

-- where the last of these items ends, after one that ends at `from`
abbrev pub ended_at : ℕ → ℕ → List Ended → ℕ
ended_at base from [] = from
ended_at base from (e ∷ es) = ended_at base (ends_at base e.end) es

ended_at-append : (base from : ℕ) (xs ys : List Ended) → ended_at base from (xs ++ ys) ≡ ended_at base (ended_at base from xs) ys
ended_at-append base from [] ys = refl
ended_at-append base from (x ∷ xs) ys = ended_at-append base (ends_at base x.end) xs ys

ats-append : (base from n : ℕ) (xs ys : List Ended)
    → error_ats base from n (xs ++ ys) ≡ error_ats base from n xs ++ error_ats base (ended_at base from xs) (n + all_scalars xs) ys
ats-append base from n [] ys = let e : n ≡ n + 0 = omega arith in ap (λ m. error_ats base from m ys) e
ats-append base from n (x ∷ xs) ys =
    let e : n + x.scalars + all_scalars xs ≡ n + all_scalars (x ∷ xs) = omega arith in
    let rest = ats-append base (ends_at base x.end) (n + x.scalars) xs ys in
    by_test x.error (λ t. rw (t, rest, e) refl) (λ t. rw (t, rest, e) refl)

pub ats-length : (base from n : ℕ) (es : List Ended) → length (error_ats base from n es) ≡ errors_in es
ats-length base from n [] = refl
ats-length base from n (e ∷ es) =
    let rest = ats-length base (ends_at base e.end) (n + e.scalars) es in by_test e.error (λ t. rw t (omega (arith, rest))) (λ t. rw t (omega (arith, rest)))

-- an error of items that are all errors
error-at : (base from n k : ℕ) (es : List Ended) (e : Ended) → AreAlike true es → slice_get es k ≡ Some e → slice_get (error_ats base from n es) k
    ≡ Some (record { place = record { from = ended_at base from (take k es); to = ends_at base e.end }; scalar = n + k })
error-at base from n k [] e h at = absurd (none_some at)
error-at base from n zero (x ∷ es) e h at = let same : x ≡ e = same_some at in let m : n + 0 ≡ n = omega arith in rw (h.0, ← same, m) refl
error-at base from n (suc k) (x ∷ es) e h at =
    let m : n + suc k ≡ n + x.scalars + k = omega (arith, h.1 h.0) in
    rw (h.0, m) (error-at base (ends_at base x.end) (n + x.scalars) k es e h.2 at)

-- where an item begins, by the one before it
begins-at : (base from begin k : ℕ) (es : List Ended) → (k ≡ 0 → begin ≡ from) → (0 < k → begin ≡ end_or base from (slice_get es (k - 1)))
    → k < length es → begin ≡ ended_at base from (take k es)
begins-at base from begin zero es first later l = first refl
begins-at base from begin (suc k) es first later l =
    let v = element es k (omega (arith, l)) in
    let k_is : suc k - 1 ≡ k = omega arith in
    later (omega arith) ∙ rw (k_is, v.1, take-next es k v.0 v.1, ended_at-append base from (take k es) (v.0 ∷ [])) refl

-- an error of a run, by its item and the one before it
run-shows : (base from n k : ℕ) (r : Run) (p : Place) (before item : Option Ended) → k < errors_in (items_of_run r)
    → before ≡ slice_get (items_of_run r) (k - 1) → item ≡ slice_get (items_of_run r) k
    → (k ≡ 0 → p.from ≡ from) → (0 < k → p.from ≡ end_or base from before) → p.to ≡ end_or base from item
    → slice_get (error_ats base from n (items_of_run r)) k ≡ Some (record { place = p; scalar = n + k })
run-shows base from n k r p before item l b i first later to =
    let es = items_of_run r in
    elim (either_run r) [
      | inl h ↦ let few : k < length es = omega (arith, l, errors-in-all es h) in
          let w = element es k few in
          let from_is = begins-at base from p.from k es first (λ some. later some ∙ ap (end_or base from) b) few in
          let to_is : p.to ≡ ends_at base w.0.end = to ∙ ap (end_or base from) (i ∙ w.1) in
          error-at base from n k es w.0 h w.1 ∙ rw (← from_is, ← to_is) refl
      | inr h ↦ absurd (omega (arith, l, others-count n r h))
    ]

run-last : (base from : ℕ) (r : Run) → ended_at base from (items_of_run r) ≡ ends_at base r.last
run-last base from r = ended_at-append base from (items_until r.kind r.step _ r.more) (item_of_kind r.kind r.last ∷ [])

-- ---- a walk over runs

module _ (base from n passed : ℕ) (rs : List Run) (r : Run) (f : slice_get rs 0 ≡ Some r) where
  abbrev here : List Ended
  here = items_of_run r

  abbrev later : List ErrorAt
  later = error_ats base (ended_at base from here) (n + all_scalars here) (items_of_runs (drop 1 rs))

  ats-first : error_ats base from n (items_of_runs rs) ≡ error_ats base from n here ++ later
  ats-first = ap (error_ats base from n) (items-first rs r f) ∙ ats-append base from n here (items_of_runs (drop 1 rs))

  -- one more run gone past
  pub run-passed : (to m rest : ℕ) → errors_in here ≤ passed → rest ≡ passed - errors_in here → to ≡ ends_at base r.last → m ≡ n + all_scalars here
      → drop rest (error_ats base to m (items_of_runs (drop 1 rs))) ≡ drop passed (error_ats base from n (items_of_runs rs))
  run-passed to m rest h rest_is to_is m_is =
      let size : passed ≡ length (error_ats base from n here) + rest = omega (arith, ats-length base from n here, h, rest_is) in
      rw (to_is, ← run-last base from r, m_is, ats-first, size) (sym (drop-append-add (error_ats base from n here) later rest))

  -- the error that comes next, and those after it
  pub run-holds : (p : Place) (before item : Option Ended) → passed < errors_in here → before ≡ slice_get here (passed - 1) → item ≡ slice_get here passed
      → (passed ≡ 0 → p.from ≡ from) → (0 < passed → p.from ≡ end_or base from before) → p.to ≡ end_or base from item
      → drop passed (error_ats base from n (items_of_runs rs)) ≡ record { place = p; scalar = n + passed } ∷ drop (passed + 1)
      (error_ats base from n (items_of_runs rs))
  run-holds p before item h b it first behind to =
      let all = error_ats base from n (items_of_runs rs) in
      let at : slice_get all passed ≡ Some (record { place = p; scalar = n + passed }) =
      rw (ats-first, get-front (error_ats base from n here) later passed (omega (arith, ats-length base from n here, h)))
      (run-shows base from n passed r p before item h b it first behind to) in
      rw (add-one passed) (drop-next all passed _ at)

-- ---- pieces

item-error : (i : Item) (x : ErrorAt) (rest : List ErrorAt) → error_if i x ++ rest ≡ cond (is_an_error i) (x ∷ rest) rest
item-error (One c) x rest = refl
item-error (Two a b) x rest = refl
item-error Error x rest = refl

ats-made : (base from n : ℕ) (ps : List Placed) (es : List Ended) → AreEnded base ps es → IsChained from ps → errors_from n ps ≡ error_ats base from n es
ats-made base from n [] [] w f = refl
ats-made base from n [] (e ∷ es) w f = absurd w
ats-made base from n (p ∷ ps) [] w f = absurd w
ats-made base from n (p ∷ ps) (e ∷ es) w f =
    let size = length (item_code_points p.item) in
    let x : ErrorAt = record { place = record { from = p.from; to = p.to }; scalar = n } in
    let rest = ats-made base p.to (n + size) ps es w.1 f.1 in
    rw (item-error p.item x (errors_from (n + size) ps), rest, ← w.0.scalars, w.0.end, f.0, ← w.0.error) refl

-- the errors from number `n` on: those of its piece, and others
pub record AreNext (all own : List ErrorAt) (n : ℕ) : Type 0 where
  pub more : List ErrorAt
  pub parts : drop n all ≡ own ++ more
  pub some : 0 < length own

pub next-placed : ChainLaws → (d : Pieced) (n begin : ℕ) (s : Sum) (o : Outcome) → (p : IsPlaced errors_in_sum d n s o) → (w : IsPieced d)
    → n < length (errors_of d.doc) → ((front back : List Outcome) (ps : List Placed) → d.pieces ≡ front ++ back → (total_of front).scalars ≡ s.scalars
    → AreMade 0 ps front → begin ≡ last_to (bom_of d) ps) → AreNext (all_errors d.doc) (drop (n - s.errors) (error_ats s.bytes begin s.scalars o.items)) n
next-placed laws d n begin s o p w few at =
    let c = cut_around errors_in_sum d n s o p w in
    let begin_is : begin ≡ last_to (bom_of d) c.left = at p.front p.pieces c.left p.cut (sym (ap (λ (v : Sum). v.scalars) p.sum)) c.before in
    let chain : IsChained (bom_of d) (c.left ++ (c.here ++ c.rest)) = rw c.split at (laws.items d.doc) in
    let own_chain : IsChained begin c.here =
    rw begin_is (laws.parts (last_to (bom_of d) c.left) c.here c.rest (laws.parts (bom_of d) c.left (c.here ++ c.rest) chain).1).0 in
    let start : 0 + length (code_points c.left) ≡ s.scalars = omega (arith, c.count) in
    let left = errors_from 0 c.left in
    let own = error_ats s.bytes begin s.scalars o.items in
    let more = errors_from (s.scalars + length (code_points c.here)) c.rest in
    let k = n - s.errors in
    let all : all_errors d.doc ≡ left ++ (own ++ more) =
    rw (
      c.split,
      errors-append 0 c.left (c.here ++ c.rest),
      start,
      errors-append s.scalars c.here c.rest,
      ats-made s.bytes begin s.scalars c.here o.items c.own.items own_chain,
    ) refl in
    let left_size : length left ≡ s.errors = sym (length-map left scalar_of) ∙ errors-left errors_in_sum d n s o p c in
    let own_size : length own ≡ o.sum.errors = ats-length s.bytes begin s.scalars o.items ∙ sym o.summed.errors in
    let inside : k < length own =
    by_le (length own) k
    (λ le. let past : s.errors + o.sum.errors ≤ n = omega (arith, le, own_size, p.low) in
    let none : length more ≡ 0 = rw (none-behind errors_in_sum d n s o p c past) refl in
    absurd (omega (arith, ap length all, length-append {A = ErrorAt}, left_size, own_size, none, errors-count d.doc Utf8, few, past)))
    (λ lt. lt) in
    let sum : n ≡ length left + k = omega (arith, left_size, p.low) in
    record {
      more = more;
      parts = rw all (ap (λ m. drop m (left ++ (own ++ more))) sum ∙ drop-append-add left (own ++ more) k ∙ drop-append-le k own more (omega (arith, inside)));
      some = omega (arith, length-drop k own, inside);
    }

-- ---- what is listed

pub record AreListed (all old new : List ErrorAt) (from count : ℕ) : Type 0 where
  pub listed : new ≡ take (length new) (drop from all)
  pub more : length old < length new
  pub few : length new ≤ count

pub listed-more : (all old own new : List ErrorAt) (from next left count : ℕ) → old ≡ take (length old) (drop from all)
    → length old < count → next ≡ from + length old → left ≡ count - length old
    → AreNext all own next → new ≡ old ++ take left own → AreListed all old new from count
listed-more all old own new from next left count o h at rest a e =
    let xs = drop from all in
    let there : from + length old ≡ next = omega (arith, at) in
    let behind : drop (length old) xs ≡ own ++ a.more = rw (drop-drop (length old) from all, there) a.parts in
    let back = drop left own ++ a.more in
    let whole : xs ≡ new ++ back =
    sym (take-append-drop (length old) xs) ∙ rw (
      ← o,
      behind,
      e,
      append_assoc old (take left own) back,
      ← append_assoc (take left own) (drop left own) a.more,
      take-append-drop left own,
    ) refl in
    let size : length new ≡ length old + min left (length own) = rw (e, length-append old (take left own), length-take left own) refl in
    record {
      listed = sym (ap (take (length new)) whole ∙ take-append_seam new back);
      more = omega (arith, size, a.some, rest, h);
      few = omega (arith, size, rest, h);
    }
