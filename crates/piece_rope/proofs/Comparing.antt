-- A text is the wanted one exactly where the code points are that an edit can have changed.
use Rattle.std.proofs.Math.Utf8.{encode}
use Rattle.piece_rope.proofs.Prelude.{◌≡◌, refl, ap, ◌∙◌, ℕ, suc, ◌+◌, ◌-◌, ◌≤◌, List, [], ◌∷◌, ◌++◌, take, drop, length, slice_get, Bool, Option, Some, None}
use Rattle.piece_rope.proofs.Prelude.{is_some, inl, inr, Decides, IfSome, arith, append_assoc, length-append, length-drop, take-append-drop, IfNone}
use Rattle.piece_rope.proofs.Prelude.{encode_utf8_all, append_cancel_left, length-take-le, drop-drop, drop_all, encodes-append, encode_same, drop-append_seam}
use Rattle.piece_rope.proofs.Prelude.{take-append-add, Outcome, IsSpan, wanted, replaced, Entry, here_of, parts_of, text_in, cases_lt, drop-next, element}
use Rattle.piece_rope.specs.declared.span.Span.{Span}
use Rattle.piece_rope.proofs.Parting.{parts-text, parts-get, parts-length, text-append}
use Rattle.piece_rope.proofs.{Spanning.drop-text, Texts.IsTextPlace, Texts.text-from, Texts.text-enough, Texts.text-within}

-- ---- lists

-- the code points up to i, where those before are `front`
take-behind : (front rest : List ℕ) (before i : ℕ) → before ≡ length front → before ≤ i → take i (front ++ rest) ≡ front ++ take (i - before) rest
take-behind front rest before i e l = let f : i ≡ length front + (i - before) = omega arith in cc (f, take-append-add front rest (i - before))

drop-behind : (front rest : List ℕ) (before : ℕ) → before ≡ length front → drop before (front ++ rest) ≡ rest
drop-behind front rest before e = cc (drop-append_seam front rest)

-- the code points that begin at j, if `back` begins at number `end`
drop-front-of : (front back : List ℕ) (j end : ℕ) → end ≡ length front → j ≤ end → drop j (front ++ back) ≡ take (end - j) (drop j (front ++ back)) ++ back
drop-front-of front back j end e l =
    let f : j + (end - j) ≡ end = omega arith in
    cc (f, take-append-drop (end - j) (drop j (front ++ back)), drop-drop (end - j) j (front ++ back), drop-behind front back end e)

-- characters that are written first in the same bytes, and are as many, are the same
same-front : (xs ys : List ℕ) (a b : List ℕ) → length xs ≡ length ys → encode_utf8_all xs ++ a ≡ encode_utf8_all ys ++ b → xs ≡ ys
same-front [] [] a b l e = refl
same-front (x ∷ xs) (y ∷ ys) a b l e =
    let s = encode_same x y (encode_utf8_all xs ++ a) (encode_utf8_all ys ++ b)
    (cc (append_assoc (encode x) (encode_utf8_all xs) a, append_assoc (encode y) (encode_utf8_all ys) b)) in
    cc (s.0, same-front xs ys a b (omega (arith, l)) s.1)
same-front xs ys a b l e = absurd (omega (arith, l))

-- the number of code points of a text with some replaced
replaced-length : (old put : List ℕ) (i j : ℕ) → i ≤ j → j ≤ length old → length (replaced old i j put) + (j - i) ≡ length old + length put
replaced-length old put i j order high =
    omega (arith, length-append (take i old ++ put) (drop j old), length-append (take i old) put, length-take-le i old (omega arith), length-drop j old)

-- the numbers alone refuse it
pub numbers-differ : (old new put : List ℕ) (i j : ℕ) → i ≤ j → j ≤ length old → (length new + (j - i) ≡ length old + length put → ⊥)
    → new ≡ replaced old i j put → ⊥
numbers-differ old new put i j order high differ kept = differ (rw kept (replaced-length old put i j order high))

-- ---- by parts

module _ {olds news : List Outcome} (put : List ℕ) {i j : ℕ} {s : Span} (span : IsSpan olds news i j s) where
  abbrev front : List ℕ
  front = text_in (take s.first olds)

  abbrev old : List ℕ
  old = text_in olds

  -- what stays of the code points that are compared: those before number i, and those from number j on
  abbrev stays : List ℕ
  stays = take (i - s.before) (drop s.before old)

  abbrev goes-on : List ℕ
  goes-on = take (s.end - j) (drop j old)

  old-is : old ≡ front ++ (span.mid ++ span.back)
  old-is = cc (take-append-drop s.first olds, text-append (take s.first olds) (drop s.first olds), span.old_is)

  new-is : text_in news ≡ front ++ (span.made ++ span.back)
  new-is = cc (take-append-drop s.first news, text-append (take s.first news) (drop s.first news), span.front_is, span.new_is)

  end-is : s.end ≡ length (front ++ span.mid)
  end-is = omega (arith, span.end_is, span.before_is, length-append front span.mid)

  pub span-within : s.end ≤ length old
  span-within = omega (arith, end-is, ap length old-is, length-append {A = ℕ})

  -- the part of the old text before code point i that is compared
  wanted-front : stays ≡ take (i - s.before) (drop 0 (text_in (drop s.first olds)))
  wanted-front =
      let all = text-append (take s.first olds) (drop s.first olds) in
      cc (take-append-drop s.first olds, all, drop-behind front (text_in (drop s.first olds)) s.before span.before_is)

  replaced-wanted : replaced old i j put ≡ front ++ (wanted old s i j put ++ span.back)
  replaced-wanted =
      let low = take-behind front (span.mid ++ span.back) s.before i span.before_is span.low in
      let before : take i old ≡ front ++ stays = cc (old-is, low, drop-behind front (span.mid ++ span.back) s.before span.before_is) in
      let behind : drop j old ≡ goes-on ++ span.back =
      cc (old-is, append_assoc front span.mid span.back, drop-front-of (front ++ span.mid) span.back j s.end end-is span.high) in
      let all = append_assoc front (stays ++ put) (goes-on ++ span.back) in
      cc (before, behind, append_assoc front stays put, all, append_assoc (stays ++ put) goes-on span.back)

  -- the text that is compared, and what is wanted there: what stays before code point i, the text put in, and what stays from code point j on
  abbrev pub seen : List ℕ
  seen = encode_utf8_all (text_in (drop s.first news))

  abbrev pub sought : List ℕ
  sought = encode_utf8_all (wanted old s i j put)

  -- all that is wanted was found, and the numbers are right
  pub span-found : i ≤ j → length (text_in news) + (j - i) ≡ length old + length put → (left : List ℕ) → seen ≡ sought ++ left
      → text_in news ≡ replaced old i j put
  span-found order count left found =
      let w = wanted old s i j put in
      let counted = replaced-length old put i j order (omega (arith, span-within, span.high)) in
      let as_many : length span.made ≡ length w = omega (arith, count, counted, ap length new-is, ap length replaced-wanted, length-append {A = ℕ}) in
      let written : encode_utf8_all span.made ++ encode_utf8_all span.back ≡ encode_utf8_all w ++ left = cc (encodes-append span.made span.back, span.new_is) in
      cc (new-is, replaced-wanted, same-front span.made w (encode_utf8_all span.back) left as_many written)

  -- what is wanted wasn't found
  pub span-not-found : ((left : List ℕ) → seen ≡ sought ++ left → ⊥) → text_in news ≡ replaced old i j put → ⊥
  span-not-found none kept =
      let w = wanted old s i j put in
      let same = append_cancel_left front (span.made ++ span.back) (w ++ span.back) (cc (new-is, replaced-wanted)) in
      none (encode_utf8_all span.back) (cc (span.new_is, same, encodes-append w span.back))

  abbrev pub before : List ℕ
  before = encode_utf8_all (take (i - s.before) (drop 0 (text_in (drop s.first olds))))

  abbrev pub behind : List ℕ
  behind = encode_utf8_all goes-on

  in-three : (left : List ℕ) → sought ++ left ≡ before ++ (encode_utf8_all put ++ (behind ++ left))
  in-three left =
      let joined = append_assoc (before ++ encode_utf8_all put) behind left ∙ append_assoc before (encode_utf8_all put) (behind ++ left) in
      cc (encodes-append (stays ++ put) goes-on, encodes-append stays put, wanted-front, joined)

  past-before : (rest : List ℕ) → seen ≡ before ++ rest → (left : List ℕ) → seen ≡ sought ++ left → rest ≡ encode_utf8_all put ++ (behind ++ left)
  past-before rest one left e = append_cancel_left before rest (encode_utf8_all put ++ (behind ++ left)) (cc (in-three left))

  pub no-before : ((r : List ℕ) → seen ≡ before ++ r → ⊥) → (left : List ℕ) → seen ≡ sought ++ left → ⊥
  no-before none left e = none (encode_utf8_all put ++ (behind ++ left)) (cc (in-three left))

  -- `bytes` are those of the text put in, as the code has them
  module _ {bytes : List ℕ} (rest : List ℕ) (bytes_is : encode_utf8_all put ≡ bytes) (one : seen ≡ before ++ rest) where
    pub no-text : ((r : List ℕ) → rest ≡ bytes ++ r → ⊥) → (left : List ℕ) → seen ≡ sought ++ left → ⊥
    no-text none left e = none (behind ++ left) (cc (past-before rest one left e))

    pub no-behind : {last : List ℕ} (later : List ℕ) → last ≡ behind → rest ≡ bytes ++ later → ((r : List ℕ) → later ≡ last ++ r → ⊥)
        → (left : List ℕ) → seen ≡ sought ++ left → ⊥
    no-behind {last} later last_is two none left e = none left (append_cancel_left bytes later (last ++ left) (cc (past-before rest one left e)))

    pub all-three : {last later : List ℕ} (left : List ℕ) → last ≡ behind → rest ≡ bytes ++ later → later ≡ last ++ left → seen ≡ sought ++ left
    all-three left last_is two three = cc (in-three left)

-- where the code points from j on are
module _ {ps : List Entry} (tail : Outcome) {j k before : ℕ} (place : IsTextPlace ps j k before) where
  pub back-from : drop (j - before) (text_in (drop k (parts_of ps tail))) ≡ drop j (text_in (parts_of ps tail))
  back-from = cc (drop-text ps tail k place.within, parts-text ps tail, text-from place tail.text)

  pub back-enough : (end : ℕ) → j ≤ end → end ≤ length (text_in (parts_of ps tail)) → j - before + (end - j) ≤ length (text_in (drop k (parts_of ps tail)))
  back-enough end order within =
      let enough = text-enough place tail.text end order (omega (arith, ap length (parts-text ps tail))) in
      omega (arith, enough, ap length (drop-text ps tail k place.within))

  pub back-begun : j ≤ length (text_in (parts_of ps tail)) → (part : Outcome) → slice_get (parts_of ps tail) k ≡ Some part → j - before ≤ length part.text
  back-begun within part at =
      elim (cases_lt k (length ps)) [
        | inl l ↦
            let there = element ps k l in
            let own : part ≡ here_of there.0 = cc (parts-get ps tail k there.0 there.1) in
            omega (arith, text-within place there.0 there.1, ap (λ (o : Outcome). length o.text) own)
        | inr g ↦
            let last = drop_all (suc k) (parts_of ps tail) (omega (arith, parts-length ps tail, g)) in
            let rest : text_in (drop k (parts_of ps tail)) ≡ part.text ++ [] = cc (drop-next (parts_of ps tail) k part at, last) in
            omega (arith, back-enough j (omega arith) within, ap length rest, length-append part.text [])
      ]

-- ---- answers

pub if_none_then : {A : Type 0} (r : Option A) {P Q : Type 0} → IfNone r P → (P → Q) → IfNone r Q
if_none_then None p f = f p
if_none_then (Some x) p f = tt

pub decided : {A : Type 0} (r : Option A) (b : Bool) (Q : A → Type 0) (N P : Type 0) → b ≡ is_some r → IfSome r Q → IfNone r N
    → ((x : A) → Q x → P) → (N → P → ⊥) → Decides b P
decided None b Q N P e some none holds fails = ((λ y. absurd cc), (λ p. absurd (fails none p)))
decided (Some x) b Q N P e some none holds fails = ((λ y. holds x some), (λ p. e))
