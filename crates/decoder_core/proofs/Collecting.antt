-- What a collector holds once it was given the items of a run.
use Rattle.std.proofs.Common.{◌≡◌, ℕ, suc, ◌+◌, ◌-◌, ◌^◌, ◌<◌, List, [], ◌∷◌, ◌++◌, length, fold, pos, ◌+ℤ◌, ◌-ℤ◌, refl, ap, ◌∙◌, arith, append_assoc}
use Rattle.std.{proofs.Common.append-nil, specs.Int.saturate_unsigned, specs.Int.w64}
use Rattle.decoder_core.proofs.Prelude.{fold-append, ints, Ended, Falls, feed, run, further, places, shown_at, shown_from, Collected, collect_one, last_end}
use Rattle.decoder_core.proofs.Prelude.{collect, further_on}
use Rattle.decoder_core.{specs.Queue.Table, proofs.Running.feed-nil, proofs.Running.feed-append, proofs.Running.run_feed}

placed-at : (base read back : ℕ) → base + read < 2 ^ 64 → saturate_unsigned w64 (pos base +ℤ (pos read -ℤ pos back)) ≡ base + read - back
placed-at base read back bound = grind (arith, ints)

-- ---- lists

pub places-append : (total from : ℕ) (xs ys : List Ended) → places total from (xs ++ ys) ≡ places total from xs ++ places total (last_end total from xs) ys
places-append total from [] ys = refl
places-append total from (x ∷ xs) ys = rw (places-append total (total - x.back) xs ys)

last_end-append : (total from : ℕ) (xs ys : List Ended) → last_end total from (xs ++ ys) ≡ last_end total (last_end total from xs) ys
last_end-append total from [] ys = refl
last_end-append total from (x ∷ xs) ys = last_end-append total (total - x.back) xs ys

pub places-further : (total k from : ℕ) (es : List Ended) → places (total + k) from (further k es) ≡ places total from es
places-further total k from [] = refl
places-further total k from (e ∷ es) =
    let same : total + k - (e.back + k) ≡ total - e.back = omega arith in
    rw (same, places-further total k (total - e.back) es)

pub last_end-further : (total k from : ℕ) (es : List Ended) → last_end (total + k) from (further k es) ≡ last_end total from es
last_end-further total k from [] = refl
last_end-further total k from (e ∷ es) =
    let same : total + k - (e.back + k) ≡ total - e.back = omega arith in
    ap (λ (n : ℕ). last_end (total + k) n (further k es)) same ∙ last_end-further total k (total - e.back) es

-- ---- collecting

pub collect-shown : {S : Type 0} (read : ℕ) (after : S) (es : List Ended) (c : Collected) → c.base + read < 2 ^ 64
    → fold collect_one c (shown_at read after es) ≡ collect (c.base + read) c es
collect-shown read after [] c bound = rw append-nil
collect-shown read after (e ∷ es) c bound =
    let to = c.base + read - e.back in
    let one : ℕ → Collected = λ (n : ℕ). record { all = c.all ++ record { item = e.item; from = c.from; to = n } ∷ []; base = c.base; from = n } in
    ap (λ (n : ℕ). fold collect_one (one n) (shown_at read after es)) (placed-at c.base read e.back bound)
    ∙ (rw append_assoc at (collect-shown read after es (one to) bound))

module _ {S : Type 0} {table : Table S} (f : Falls table) where
  pub collect-from : (read : ℕ) (s : S) (q : List ℕ) (c : Collected) → c.base + read + length q < 2 ^ 64
      → fold collect_one c (shown_from table read s q) ≡ collect (c.base + read + length q) c (feed table s q).items
  collect-from read s [] c bound = rw (feed-nil f s, append-nil)
  collect-from read s (b ∷ q) c bound =
      let first = feed table s (b ∷ []) in
      let t = c.base + (read + 1) in
      let more : t + length q ≡ c.base + read + suc (length q) = omega arith in
      rw (
        fold-append,
        collect-shown (read + 1) first.state first.items c (omega arith),
        collect-from (read + 1) first.state q (collect t c first.items) (omega arith),
        feed-append f s (b ∷ []) q,
        ← more,
        append_assoc,
        places-append,
        last_end-append,
        places-further t (length q) c.from first.items,
        last_end-further t (length q) c.from first.items,
      )

  -- the same from the first byte on, and where the collector then begins
  pub collect-part : (s : S) (q : List ℕ) (c new : Collected) → c.base + length q < 2 ^ 64 → new ≡ fold collect_one c (shown_from table 0 s q)
      → (new ≡ collect (c.base + length q) c (feed table s q).items) × (new.base ≡ c.base)
  collect-part s q c new bound new_is =
      let plain : c.base + 0 + length q ≡ c.base + length q = omega arith in
      let all = rw plain at (new_is ∙ collect-from 0 s q c (omega arith)) in (all, rw all)

  -- one part of the bytes: what is collected, and what is to come, are together as before
  pub part-done : (total : ℕ) (s after : S) (rest part later : List ℕ) (old new : Collected)
      → rest ≡ part ++ later → old.base + length part + length later ≡ total → after ≡ (feed table s part).state
      → new ≡ further_on (old.base + length part) (collect (old.base + length part) old (feed table s part).items)
      → new.all ++ places total new.from (run table after later) ≡ old.all ++ places total old.from (run table s rest)
  part-done total s after rest part later old new rest_is total_is after_is new_is =
      let t = old.base + length part in
      let es = (feed table s part).items in
      rw (new_is, after_is, rest_is, run_feed f s part later, ← total_is)
      (rw (append_assoc, places-append, places-further t (length later) old.from es, last_end-further t (length later) old.from es))
