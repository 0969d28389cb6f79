-- The text that a change is to leave, in chunks.
use Rattle.std.proofs.{lemmas.Option.slice_get-map, lemmas.List.length-map, lemmas.List.take-map}
use Rattle.piece_rope.proofs.Prelude.{◌≡◌, refl, sym, ap, ◌∙◌, ℕ, suc, ◌+◌, ◌-◌, ◌*◌, ◌≤◌, List, [], ◌∷◌, ◌++◌, map, take, drop, length, slice_get, Some, arith}
use Rattle.piece_rope.proofs.Prelude.{append_assoc, length-append, length-drop, take-append-drop, add-one, option_map, chunks, together, written, Wanted}
use Rattle.piece_rope.proofs.Prelude.{encode_utf8_all, encodes-append, flat_map-append, length-take-le, replaced, drop-append-add, drop-append-le}
use Rattle.piece_rope.proofs.Prelude.{take-append-add, take-append-le, Outcome, Entry, texts_of, parts_of, text_in, drop-next, take-take}
use Rattle.piece_rope.proofs.{Parting.parts-length, Parting.text-append, Spanning.take-text, Texts.IsTextPlace}
use Rattle.lemmas.proofs.Lists.{get-back}

pub together-append : (xs ys : List (List ℕ)) → together (xs ++ ys) ≡ together xs ++ together ys
together-append xs ys = flat_map-append (λ (c : List ℕ). c) xs ys

pub together-written : (os : List Outcome) → together (map written os) ≡ encode_utf8_all (text_in os)
together-written [] = refl
together-written (o ∷ os) = ap (λ (cs : List ℕ). written o ++ cs) (together-written os) ∙ sym (encodes-append o.text (text_in os))

-- one chunk more
pub together-next : (cs : List (List ℕ)) (n : ℕ) {c : List ℕ} → slice_get cs n ≡ Some c → together (drop n cs) ≡ c ++ together (drop (n + 1) cs)
together-next cs n {c} at = cc (drop-next cs n c at, add-one n)

get-drop : {X : Type 0} (n k : ℕ) (xs : List X) → n ≤ length xs → slice_get (drop n xs) k ≡ slice_get xs (n + k)
get-drop n k xs within =
    let long = length-take-le n xs within in
    let back = get-back (take n xs) (drop n xs) (n + k) (omega (arith, long)) in
    let e : n + k - length (take n xs) ≡ k = omega (arith, long) in
    ap (λ (m : ℕ). slice_get (drop n xs) m) (sym e) ∙ sym back ∙ ap (λ (ys : List _). slice_get ys (n + k)) (take-append-drop n xs)

module _ (w : Wanted) where
  abbrev parts : List Outcome
  parts = parts_of w.pieces.now.items w.tail.now

  abbrev before : List (List ℕ)
  before = map written (take w.from parts)

  abbrev behind : List (List ℕ)
  behind = map written (drop (w.to + 1) parts)

  abbrev later : List (List ℕ)
  later = w.front.now ∷ w.text.now ∷ w.back.now ∷ behind

  from-within : w.from ≤ length parts
  from-within = omega (arith, w.places.from_within, parts-length w.pieces.now.items w.tail.now)

  to-within : w.to + 1 ≤ length parts
  to-within = omega (arith, w.places.to_within, parts-length w.pieces.now.items w.tail.now)

  before-length : length before ≡ w.from
  before-length = length-map (take w.from parts) written ∙ length-take-le w.from parts from-within

  pub few-chunks : length (chunks w) ≤ 2 * length w.pieces.now.items + 4
  few-chunks =
      let all = length-append before later in
      let last = length-map (drop (w.to + 1) parts) written in
      omega (arith, before-length, all, last, length-drop (w.to + 1) parts, parts-length w.pieces.now.items w.tail.now, w.places.from_within)

  pub chunk-past : (n k : ℕ) → w.from ≤ n → n - w.from ≡ suc (suc (suc k)) → slice_get (chunks w) n ≡ option_map written (slice_get parts (w.to + 1 + k))
  chunk-past n k l e =
      get-back before later n (omega (arith, l, before-length))
      ∙ ap (λ (m : ℕ). slice_get later (n - m)) before-length
      ∙ ap (λ (m : ℕ). slice_get later m) e
      ∙ slice_get-map written (drop (w.to + 1) parts) k
      ∙ ap (option_map written) (get-drop (w.to + 1) k parts to-within)

  -- from a part before the range on
  pub wanted-from : (first : ℕ) → first ≤ w.from → together (chunks w) ≡ encode_utf8_all (texts_of (take first w.pieces.now.items))
      ++ together (drop first (chunks w))
  wanted-from first l =
      let front : take first (chunks w) ≡ map written (take first parts) =
      take-append-le first before later (omega (arith, l, before-length)) ∙ take-map written first (take w.from parts)
      ∙ ap (map written) (take-take first w.from parts l) in
      let text : together (take first (chunks w)) ≡ encode_utf8_all (texts_of (take first w.pieces.now.items)) =
      ap together front ∙ together-written (take first parts)
      ∙ ap encode_utf8_all (take-text w.pieces.now.items w.tail.now first (omega (arith, l, w.places.from_within))) in
      cc (take-append-drop first (chunks w), together-append (take first (chunks w)) (drop first (chunks w)), text)

  -- in four: what stays before the range, what is put in, and what stays after it
  pub wanted-text : (i j : ℕ) (put : List ℕ) → encode_utf8_all (take i (text_in parts)) ≡ encode_utf8_all (text_in (take w.from parts)) ++ w.front.now
      → encode_utf8_all (drop j (text_in parts)) ≡ w.back.now ++ encode_utf8_all (text_in (drop (w.to + 1) parts)) → encode_utf8_all put ≡ w.text.now
      → together (chunks w) ≡ encode_utf8_all (replaced (text_in parts) i j put)
  wanted-text i j put front_is back_is put_is =
      let old = text_in parts in
      let first = encode_utf8_all (text_in (take w.from parts)) in
      let last = encode_utf8_all (text_in (drop (w.to + 1) parts)) in
      let all : together (chunks w) ≡ first ++ (w.front.now ++ (w.text.now ++ (w.back.now ++ last))) =
      cc (together-append before later, together-written (take w.from parts), together-written (drop (w.to + 1) parts)) in
      let two = encodes-append (take i old ++ put) (drop j old) in
      let one = encodes-append (take i old) put in
      let fronts = append_assoc (first ++ w.front.now) w.text.now (w.back.now ++ last) in
      cc (all, two, one, front_is, back_is, put_is, fronts, append_assoc first w.front.now (w.text.now ++ (w.back.now ++ last)))

-- where the text of a document is cut at a code point
module _ {ps : List Entry} (tail : Outcome) {n k before : ℕ} (place : IsTextPlace ps n k before) {o : Outcome} (at : slice_get (parts_of ps tail) k ≡ Some o)
    (begun : n - before ≤ length o.text) where
  abbrev all : List ℕ
  all = text_in (parts_of ps tail)

  abbrev front : List ℕ
  front = text_in (take k (parts_of ps tail))

  abbrev rest : List ℕ
  rest = text_in (drop (k + 1) (parts_of ps tail))

  all-is : all ≡ front ++ (o.text ++ rest)
  all-is =
      let os = parts_of ps tail in
      cc (take-append-drop k os, text-append (take k os) (drop k os), drop-next os k o at, add-one k)

  reached : n ≡ length front + (n - before)
  reached = omega (arith, place.low, place.before_is, ap length (take-text ps tail k place.within))

  pub cut-front : take n all ≡ front ++ take (n - before) o.text
  cut-front = cc (reached, all-is, take-append-add front (o.text ++ rest) (n - before), take-append-le (n - before) o.text rest begun)

  pub cut-back : drop n all ≡ drop (n - before) o.text ++ rest
  cut-back = cc (reached, all-is, drop-append-add front (o.text ++ rest) (n - before), drop-append-le (n - before) o.text rest begun)
