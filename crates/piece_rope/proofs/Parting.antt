-- The parts of a document, one by one.
use Rattle.piece_rope.proofs.Prelude.{◌≡◌, refl, sym, ap, ◌∙◌, ℕ, zero, suc, ◌+◌, ◌<◌, ◌≤◌, List, [], ◌∷◌, ◌++◌, take, drop, length, slice_get, Some, None}
use Rattle.piece_rope.proofs.Prelude.{arith, append_assoc, length-append, length-drop, take-append-drop, append-nil, add-one, flat_map-append, length-take-le}
use Rattle.piece_rope.proofs.Prelude.{drop-drop, take_all, drop_all, slice_get_past, slice_get_within, encode_utf8_all, chars, IsUtf8, encodes-append}
use Rattle.piece_rope.proofs.Prelude.{encodes-chars, Outcome, PreparedEdit, renew, renewed, edited, Entry, here_of, sums_of, texts_of, parts_of, text_in}
use Rattle.piece_rope.proofs.Prelude.{edited_parts, later_parts, made_pieces, IsPrepared, Sum, joined, drop-next, get-front}
use Rattle.piece_rope.proofs.{Chaining.renewed-whole, Joining.renewed-length, Texts.sums-scalars, Texts.texts-next, Texts.texts-split}

pub parts-length : (ps : List Entry) (tail : Outcome) → length (parts_of ps tail) ≡ suc (length ps)
parts-length [] tail = refl
parts-length (p ∷ ps) tail = ap suc (parts-length ps tail)

pub parts-get : (ps : List Entry) (tail : Outcome) (n : ℕ) (p : Entry) → slice_get ps n ≡ Some p → slice_get (parts_of ps tail) n ≡ Some (here_of p)
parts-get [] tail n p at = absurd cc
parts-get (q ∷ ps) tail zero p at = let e : q ≡ p = cc in ap (λ (x : Entry). Some (here_of x)) e
parts-get (q ∷ ps) tail (suc n) p at = parts-get ps tail n p at

pub parts-behind : (xs ys : List Entry) (tail : Outcome) (n : ℕ) → slice_get (parts_of (xs ++ ys) tail) (length xs + n) ≡ slice_get (parts_of ys tail) n
parts-behind [] ys tail n = let e : 0 + n ≡ n = omega arith in ap (λ (k : ℕ). slice_get (parts_of ys tail) k) e
parts-behind (x ∷ xs) ys tail n = let e : suc (length xs) + n ≡ suc (length xs + n) = omega arith in rw e (parts-behind xs ys tail n)

pub parts-front : (xs ys : List Entry) (tail : Outcome) (n : ℕ) (p : Entry) → slice_get xs n ≡ Some p
    → slice_get (parts_of (xs ++ ys) tail) n ≡ Some (here_of p)
parts-front xs ys tail n p at = parts-get (xs ++ ys) tail n p (get-front xs ys n (slice_get_within xs n p at) ∙ at)

-- the parts after the first k pieces
pub parts-from : (ps : List Entry) (tail : Outcome) (k n : ℕ) → k ≤ length ps → slice_get (parts_of (drop k ps) tail) n ≡ slice_get (parts_of ps tail) (k + n)
parts-from ps tail k n l = cc (parts-behind (take k ps) (drop k ps) tail n, length-take-le k ps l, take-append-drop k ps)

pub renewed-get : (xs : List Entry) (rs : List Entry) (n : ℕ) (p : Entry) (r : Entry) → slice_get xs n ≡ Some p → slice_get rs n ≡ Some r
    → slice_get (renewed xs rs) n ≡ Some (renew p r)
renewed-get (x ∷ xs) (q ∷ rs) zero p r at too = cc
renewed-get (x ∷ xs) (q ∷ rs) (suc n) p r at too = renewed-get xs rs n p r at too
renewed-get xs rs n p r at too = absurd cc

-- after the pieces that are renewed nothing changes
pub renewed-past : (xs : List Entry) (rs : List Entry) (tail : Outcome) (n : ℕ) → length rs ≤ n → length rs ≤ length xs
    → slice_get (parts_of (renewed xs rs) tail) n ≡ slice_get (parts_of xs tail) n
renewed-past xs [] tail n l w = refl
renewed-past (x ∷ xs) (r ∷ rs) tail (suc n) l w = renewed-past xs rs tail n (omega (arith, l)) (omega (arith, w))
renewed-past xs (r ∷ rs) tail n l w = absurd (omega (arith, l, w))

module _ {ps : List Entry} {e : PreparedEdit} (fits : IsPrepared ps e) where
  abbrev later : List Entry
  later = drop e.last ps

  abbrev left : List Entry
  left = renewed later e.renewals.items

  few-renewed : length e.renewals.items ≤ length later
  few-renewed = omega (arith, fits.within, length-drop e.last ps)

  first-length : length (take e.first ps) ≡ e.first
  first-length = length-take-le e.first ps (omega (arith, fits.order, fits.within))

  -- a new piece
  pub made-part : (n m : ℕ) (p : Entry) → n ≡ e.first + m → slice_get e.fresh.items m ≡ Some p → slice_get (edited_parts ps e) n ≡ Some (here_of p)
  made-part n m p n_is at = cc (first-length, parts-behind (take e.first ps) (e.fresh.items ++ left) e.tail m, parts-front e.fresh.items left e.tail m p at)

  -- a part after these
  pub part-later : (n m : ℕ) → n ≡ e.first + (length e.fresh.items + m) → slice_get (edited_parts ps e) n ≡ slice_get (later_parts ps e) m
  part-later n m n_is =
      cc (first-length, parts-behind (take e.first ps) (e.fresh.items ++ left) e.tail (length e.fresh.items + m), parts-behind e.fresh.items left e.tail m)

  pub none-later : (n : ℕ) → length later < n → slice_get (later_parts ps e) n ≡ None
  none-later n past = slice_get_past (later_parts ps e) n (omega (arith, past, parts-length left e.tail, renewed-length later e.renewals.items few-renewed))

  pub renewed-part : (n : ℕ) (p : Entry) (r : Entry) → slice_get later n ≡ Some p → slice_get e.renewals.items n ≡ Some r
      → slice_get (later_parts ps e) n ≡ Some (here_of (renew p r))
  renewed-part n p r at too = parts-get left e.tail n (renew p r) (renewed-get later e.renewals.items n p r at too)

  pub same-part : (n : ℕ) → length e.renewals.items ≤ n → slice_get (later_parts ps e) n ≡ slice_get (parts_of ps e.tail) (e.last + n)
  same-part n past = renewed-past later e.renewals.items e.tail n past few-renewed ∙ parts-from ps e.tail e.last n (omega (arith, fits.within))

  -- what an edit leaves are the pieces before those that it touches, the new ones, and those after them
  abbrev pub behind : List Entry
  behind = drop (e.last + length e.renewals.items) ps

  pub edited-is : edited ps e ≡ take e.first ps ++ (made_pieces ps e ++ behind)
  edited-is =
      let count = length e.renewals.items in
      let whole = renewed-whole later e.renewals.items few-renewed in
      cc (whole, append_assoc e.fresh.items (renewed (take count later) e.renewals.items) (drop count later), drop-drop count e.last ps)

  pub made-length : length (made_pieces ps e) ≡ length e.fresh.items + length e.renewals.items
  made-length =
      let front = take (length e.renewals.items) later in
      let own : length front ≡ length e.renewals.items = length-take-le (length e.renewals.items) later few-renewed in
      omega (arith, length-append e.fresh.items (renewed front e.renewals.items), renewed-length front e.renewals.items (omega (arith, own)), own)

  -- a new piece is a part of what the edit leaves
  pub made-at : (m : ℕ) (p : Entry) → slice_get (made_pieces ps e) m ≡ Some p → slice_get (edited_parts ps e) (e.first + m) ≡ Some (here_of p)
  made-at m p at =
      let front = parts-front (made_pieces ps e) behind e.tail m p at in
      cc (first-length, edited-is, parts-behind (take e.first ps) (made_pieces ps e ++ behind) e.tail m, front)

-- the text of parts
pub text-append : (xs ys : List Outcome) → text_in (xs ++ ys) ≡ text_in xs ++ text_in ys
text-append xs ys = flat_map-append (λ (o : Outcome). o.text) xs ys

pub parts-text : (ps : List Entry) (tail : Outcome) → text_in (parts_of ps tail) ≡ texts_of ps ++ tail.text
parts-text [] tail = append-nil tail.text
parts-text (p ∷ ps) tail = ap (λ (cs : List ℕ). (here_of p).text ++ cs) (parts-text ps tail) ∙ sym (append_assoc (here_of p).text (texts_of ps) tail.text)

-- the numbers of all pieces and of the end count the code points
pub whole-scalars : (ps : List Entry) (tail : Outcome) {s : Sum} → s ≡ joined (sums_of ps) tail.sum → s.scalars ≡ length (text_in (parts_of ps tail))
whole-scalars ps tail s_is =
    omega (arith, ap (λ (t : Sum). t.scalars) s_is, sums-scalars ps, tail.summed.scalars, length-append (texts_of ps) tail.text, ap length (parts-text ps tail))

-- nothing follows the end
pub drop-past : {X : Type 0} (os : List X) (n : ℕ) → slice_get os n ≡ None → drop n os ≡ []
drop-past [] n at = drop_all n [] (omega arith)
drop-past (o ∷ os) zero at = absurd cc
drop-past (o ∷ os) (suc n) at = drop-past os n at

-- one more piece, counted in code points
pub scalars-next : (ps : List Entry) (n : ℕ) (p : Entry) (o : Outcome) → slice_get ps n ≡ Some p → o ≡ here_of p
    → length (texts_of (take (n + 1) ps)) ≡ length (texts_of (take n ps)) + o.sum.scalars
scalars-next ps n p o at o_is =
    let more = ap (λ (k : ℕ). length (texts_of (take k ps))) (add-one n) in
    omega (arith, more, texts-next ps n p at, (here_of p).summed.scalars, ap (λ (x : Outcome). x.sum.scalars) o_is)

pub texts-most : (ps : List Entry) (n : ℕ) → length (texts_of (take n ps)) ≤ length (texts_of ps)
texts-most ps n = omega (arith, ap length (texts-split ps n), length-append (texts_of (take n ps)) (texts_of (drop n ps)))

pub texts-all : (ps : List Entry) (n : ℕ) → length ps ≤ n → length (texts_of (take n ps)) ≡ length (texts_of ps)
texts-all ps n l = ap (λ (xs : List Entry). length (texts_of xs)) (take_all n ps l)

-- if the next of the new pieces isn't counted any more
pub counted-off : (ps : List Entry) (n left most : ℕ) (p : Entry) (o : Outcome) → slice_get ps n ≡ Some p → o ≡ here_of p
    → left + length (texts_of (take n ps)) ≡ most → (o.sum.scalars ≤ left → ⊥) → most < length (texts_of ps)
counted-off ps n left most p o at o_is so_far over = omega (arith, scalars-next ps n p o at o_is, texts-most ps (n + 1), so_far, over)

-- the bytes of the text from part number n on
pub bytes-next-part : (os : List Outcome) (n : ℕ) (o : Outcome) (bytes : List ℕ) → slice_get os n ≡ Some o → IsUtf8 bytes → chars bytes ≡ o.text
    → encode_utf8_all (text_in (drop n os)) ≡ bytes ++ encode_utf8_all (text_in (drop (n + 1) os))
bytes-next-part os n o bytes at utf8 own =
    cc (drop-next os n o at, encodes-append o.text (text_in (drop (suc n) os)), encodes-chars bytes utf8, add-one n)

pub few-parts : {ps : List Entry} {e : PreparedEdit} → IsPrepared ps e → length (edited_parts ps e) ≤ 4294967297
few-parts {ps} {e} fits = omega (arith, parts-length (edited ps e) e.tail, fits.few)
