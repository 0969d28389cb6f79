-- The pieces in order and then the end make up what decoding from scratch gives.
use Rattle.std.proofs.Common.{◌≡◌, refl, sym, ap, ◌∙◌, subst, ℕ, suc, ◌+◌, ◌-◌, ◌^◌, ◌<◌, List, [], ◌∷◌, ◌++◌, take, drop, length, map, Option, Some, arith}
use Rattle.std.proofs.Common.{append_assoc, length-append}
use Rattle.std.proofs.lemmas.Int.{ints}
use Rattle.state_memo.specs.Near.{AreNear}
use Rattle.piece_rope.proofs.Prelude.{ℤ, pos, ◌-ℤ◌, take-append_seam, drop-append_seam, Item, One, EndedItem, Placed, places, AnyDecoding, AnyState, any}
use Rattle.piece_rope.proofs.Prelude.{any_start, feed, run, further, Shown, shown_from, shown_items, ended_at, item_code_points, code_points, decoder_in}
use Rattle.piece_rope.proofs.Prelude.{output_of, mark_length, Outcome, scalar_count, is_an_error, Contents, contents_of, outcome_of, ending_of, text_of_shown}
use Rattle.piece_rope.proofs.Prelude.{items_of_shown, text_of_ended, items_of_ended, sum_of, Chain, bytes_of, state_after, Document, decoded, Entry}
use Rattle.piece_rope.proofs.Prelude.{here_of, ends_at, AreEnded, EndWithin, IsMade, AreMade, IsWhole, ended_by}
use Rattle.piece_rope.{proofs.Counting.here-of, specs.Laws.ItemLaws, specs.Laws.Laws}

scalars-of : (i : Item) → scalar_count i ≡ length (item_code_points i)
scalars-of (One c) = refl
scalars-of i = refl

-- where the last of some items ends
abbrev pub last_end : ℕ → ℕ → List EndedItem → ℕ
last_end total from [] = from
last_end total from (e ∷ es) = last_end total (total - e.back) es

pub places-append : (total from : ℕ) (xs ys : List EndedItem) → places total from (xs ++ ys) ≡ places total from xs ++ places total (last_end total from xs) ys
places-append total from [] ys = refl
places-append total from (x ∷ xs) ys = ap (λ (ps : List Placed). record { item = x.item; from = from; to = total - x.back } ∷ ps)
    (places-append total (total - x.back) xs ys)

places-length : (total from : ℕ) (es : List EndedItem) → length (places total from es) ≡ length es
places-length total from [] = refl
places-length total from (e ∷ es) = ap suc (places-length total (total - e.back) es)

pub end_of : (base read back : ℕ) → base + read < 2 ^ 64 → ends_at base (pos read -ℤ pos back) ≡ base + read - back
end_of base read back bound = grind (arith, ints)

near-front : (k n : ℕ) (xs ys : List EndedItem) → AreNear (k + n) (further n xs ++ ys) → AreNear k xs
near-front k n [] ys h = tt
near-front k n (x ∷ xs) ys h = (omega (arith, h.0), near-front k n xs ys h.1)

-- items with their ends are the same as those of the run
same-head : (x : Shown AnyState) (xs : List (Shown AnyState)) (m : ℕ) (e : EndedItem) (es : List EndedItem) → shown_items (x ∷ xs) ≡ ended_at m (e ∷ es)
    → (x.item ≡ e.item) × (x.end ≡ pos m -ℤ pos e.back) × (shown_items xs ≡ ended_at m es)
same-head x xs m e es same =
    let first : (x.item, x.end) ≡ (e.item, pos m -ℤ pos e.back) = cc in
    (ap (λ (y : Item × ℤ). y.0) first, ap (λ (y : Item × ℤ). y.1) first, cc)

pub shown-text : (m : ℕ) (xs : List (Shown AnyState)) (es : List EndedItem) → shown_items xs ≡ ended_at m es → text_of_shown xs ≡ text_of_ended es
shown-text m [] [] same = refl
shown-text m (x ∷ xs) (e ∷ es) same = let parts = same-head x xs m e es same in cc (parts.0, shown-text m xs es parts.2)
shown-text m xs es same = absurd cc

pub placed-text : (total from n : ℕ) (es : List EndedItem) → code_points (places total from (further n es)) ≡ text_of_ended es
placed-text total from n [] = refl
placed-text total from n (e ∷ es) = ap (λ (cs : List ℕ). item_code_points e.item ++ cs) (placed-text total (total - (e.back + n)) n es)

ending-text : (total from : ℕ) (es : List EndedItem) → code_points (places total from es) ≡ text_of_ended es
ending-text total from [] = refl
ending-text total from (e ∷ es) = ap (λ (cs : List ℕ). item_code_points e.item ++ cs) (ending-text total (total - e.back) es)

shown-ended : (base total m n from : ℕ) (xs : List (Shown AnyState)) (es : List EndedItem) → shown_items xs ≡ ended_at m es
    → total ≡ base + (m + n) → total < 2 ^ 64 → AreEnded base (places total from (further n es)) (items_of_shown xs)
shown-ended base total m n from [] [] same whole bound = tt
shown-ended base total m n from (x ∷ xs) (e ∷ es) same whole bound =
    let parts = same-head x xs m e es same in
    let here : total - (e.back + n) ≡ base + m - e.back = omega (arith, whole) in
    let end = end_of base m e.back (omega (arith, whole, bound)) in (
      record { scalars = ap scalar_count parts.0 ∙ scalars-of e.item; error = ap is_an_error parts.0; end = cc (here, end, parts.1) },
      shown-ended base total m n (total - (e.back + n)) xs es parts.2 whole bound,
    )
shown-ended base total m n from xs es same whole bound = absurd cc

placed-within : (base total m n from : ℕ) (es : List EndedItem) → total ≡ base + (m + n) → AreNear (m + 7) es
    → EndWithin base m (places total from (further n es))
placed-within base total m n from [] whole near = tt
placed-within base total m n from (e ∷ es) whole near =
    (omega (arith, whole), omega (arith, whole, near.0), placed-within base total m n (total - (e.back + n)) es whole near.1)

tail-ended : (total from : ℕ) (output : _) (es : List EndedItem) → total < 2 ^ 64 → AreEnded total (places total from es) (items_of_ended output es)
tail-ended total from output [] bound = tt
tail-ended total from output (e ∷ es) bound =
    let end = end_of total 0 e.back (omega (arith, bound)) in
    (record { scalars = scalars-of e.item; error = refl; end = omega (arith, end) }, tail-ended total (total - e.back) output es bound)

tail-within : (total from : ℕ) (es : List EndedItem) → AreNear 7 es → EndWithin total 0 (places total from es)
tail-within total from [] near = tt
tail-within total from (e ∷ es) near = (omega arith, omega (arith, near.0), tail-within total (total - e.back) es near.1)

-- the items of pieces and of the end, as they lie in the document
record Parts (d : AnyDecoding) (base total from : ℕ) (s : AnyState) (ps : List Entry) (tail : Outcome) : Type 0 where
  body : List Placed
  rest : List Placed
  all : places total from (run (any d) s (bytes_of ps)) ≡ body ++ rest
  made : AreMade base body (map here_of ps)
  ended : IsMade total rest tail
  count : length rest ≡ length (run (any d) (state_after d s ps) [])

module _ {d : AnyDecoding} (laws : Laws d) (items : ItemLaws d) where
  piece-made : (base total n from : ℕ) (s : AnyState) (q : List ℕ) (o : Outcome) → contents_of o ≡ outcome_of d s q
      → total ≡ base + (length q + n) → total < 2 ^ 64
      → AreNear (length q + 7) (feed (any d) s q).items → IsMade base (places total from (further n (feed (any d) s q).items)) o
  unfolding outcome_of sum_of
  piece-made base total n from s q o own whole bound near =
      let es = (feed (any d) s q).items in
      let xs = shown_from (any d) 0 s q in
      record {
        text = ap (λ (c : Contents). c.text) own ∙ shown-text (length q) xs es (items.shown s q) ∙ sym (placed-text total from n es);
        items = rw (ap (λ (c : Contents). c.items) own) (shown-ended base total (length q) n from xs es (items.shown s q) whole bound);
        within = rw (ap (λ (c : Contents). c.sum.bytes) own) (placed-within base total (length q) n from es whole near);
      }

  tail-made : (total from : ℕ) (s : AnyState) (o : Outcome) → contents_of o ≡ ending_of d s → total < 2 ^ 64
      → IsMade total (places total from (run (any d) s [])) o
  unfolding ending_of sum_of
  tail-made total from s o own bound =
      let es = run (any d) s [] in
      record {
        text = ap (λ (c : Contents). c.text) own ∙ sym (ending-text total from es);
        items = rw (ap (λ (c : Contents). c.items) own) (tail-ended total from (output_of s) es bound);
        within = rw (ap (λ (c : Contents). c.sum.bytes) own) (tail-within total from es (items.near s []));
      }

  parts : (base total from : ℕ) (s : AnyState) (ps : List Entry) (tail : Outcome) → Chain d s ps → total ≡ base + length (bytes_of ps) → total < 2 ^ 64
      → contents_of tail ≡ ending_of d (state_after d s ps) → Parts d base total from s ps tail
  parts base total from s [] tail chain whole bound own = record {
    body = [];
    rest = places total from (run (any d) s []);
    all = refl;
    made = refl;
    ended = tail-made total from s tail (own ∙ ap (ending_of d) (laws.none s)) bound;
    count = cc (places-length total from (run (any d) s []), laws.none s);
  }
  parts base total from s (p ∷ ps) tail chain whole bound own =
      let q = p.piece.bytes in
      let more = bytes_of ps in
      let n = length more in
      let f = feed (any d) s q in
      let es = further n f.items in
      let later = last_end total from es in
      let own-here = here-of p chain.0 chain.1 in
      let bytes : (here_of p).sum.bytes ≡ length q = ap (λ (c : Contents). c.sum.bytes) own-here ∙ laws.bytes s q in
      let size : total ≡ base + (length q + n) = omega (arith, whole, length-append q more) in
      let longer : length (q ++ more) + 7 ≡ length q + 7 + n = omega (arith, length-append q more) in
      let near = near-front (length q + 7) n f.items (run (any d) f.state more) (rw (longer, items.runs s q more) at (items.near s (q ++ more))) in
      let after = parts (base + length q) total later f.state ps tail chain.2 (omega (arith, size)) bound (own ∙ ap (ending_of d) (laws.parts s q more)) in
      let row = append_assoc (places total from es) after.body after.rest in
      record {
        body = places total from es ++ after.body;
        rest = after.rest;
        all = cc (items.runs s q more, places-append total from es (run (any d) f.state more), after.all, row);
        made = (
          places total from es,
          after.body,
          refl,
          piece-made base total n from s q (here_of p) own-here size bound near,
          subst (λ (k : ℕ). AreMade (base + k) after.body (map here_of ps)) (sym bytes) after.made,
        );
        ended = after.ended;
        count = cc (after.count, laws.parts s q more);
      }

  -- a list in two parts, cut by the length of the second
  cut-behind : {X : Type 0} (all xs ys : List X) (n : ℕ) → all ≡ xs ++ ys → length ys ≡ n → (take (length all - n) all ≡ xs) × (drop (length all - n) all ≡ ys)
  cut-behind all xs ys n all_is e =
      let k : length all - n ≡ length xs = omega (arith, ap length all_is, length-append xs ys) in
      (cc (k, take-append_seam xs ys), cc (k, drop-append_seam xs ys))

  pub whole : (doc : Document) (ps : List Entry) (tail : Outcome) → decoder_in doc.indexes doc.setting ≡ Some d → doc.bytes ≡ bytes_of ps
      → Chain d (any_start d) ps → places (length doc.bytes) (mark_length doc.setting doc.bytes) (run (any d) (any_start d) doc.bytes) ≡ (decoded doc).items
      → length doc.bytes < 2 ^ 64 → contents_of tail ≡ ending_of d (state_after d (any_start d) ps) → IsWhole doc (map here_of ps) tail
  whole doc ps tail chosen bytes chain scratch bound own =
      let size = length doc.bytes in
      let made = parts 0 size (mark_length doc.setting doc.bytes) (any_start d) ps tail chain (ap length bytes ∙ omega arith) bound own in
      let all : (decoded doc).items ≡ made.body ++ made.rest = cc (scratch, bytes, made.all) in
      let last : ended_by (decoder_in doc.indexes doc.setting) doc.bytes ≡ length (run (any d) (state_after d (any_start d) ps) []) =
      ap (λ (o : Option AnyDecoding). ended_by o doc.bytes) chosen
      ∙ ap (λ (bs : List ℕ). length (run (any d) (feed (any d) (any_start d) bs).state [])) bytes in
      let cut = cut-behind (decoded doc).items made.body made.rest (ended_by (decoder_in doc.indexes doc.setting) doc.bytes) all (made.count ∙ sym last) in
      record { made = rw (cut.0) made.made; ended = rw (cut.1) made.ended }
