-- Bytes found in a text that lies in pieces, and the parts of one text taken off another.
use Rattle.piece_rope.proofs.Prelude.{◌≡◌, ◌==◌, true, false, Option, Some, None, ◌-◌, ℕ, ◌≤◌, ◌<◌, min, List, [], ◌++◌, length, take, drop, ap, ◌∙◌, arith}
use Rattle.piece_rope.proofs.Prelude.{append_assoc, append-nil, length-append, nat_tests, Decides-eqb, append_cancel_left, length-drop, take-append-drop}
use Rattle.piece_rope.proofs.Prelude.{take-append-le, take_rest, nil_from_length, IfNone, IsMatch, refl, ◌+◌, slice_get, add-one, encode_utf8_all, chars}
use Rattle.piece_rope.proofs.Prelude.{IsUtf8, encodes-append, encodes-chars, length-le-encodes, Outcome, text_in, drop-next}
use Rattle.piece_rope.proofs.{Parting.drop-past, Reading.part-step, Reading.read-enough}

-- what was found so far precedes what is left of the part, and what is left of the text
pub record Found (part left : List ℕ) (text rest : List ℕ) : Type 0 where
  pub eaten : List ℕ
  pub part_is : part ≡ eaten ++ left
  pub text_is : text ≡ eaten ++ rest

pub unmatched : {part left text : List ℕ} (head behind : List ℕ) → Found part left text (head ++ behind) → ((x y : List ℕ) → head ++ x ≡ left ++ y → ⊥)
    → (rest : List ℕ) → text ≡ part ++ rest → ⊥
unmatched {left = left} head behind f none rest e =
    none behind rest (append_cancel_left f.eaten (head ++ behind) (left ++ rest) (cc (f.text_is, f.part_is, append_assoc f.eaten left rest)))

-- the matched bytes are found too
pub more-sliced : {part left text head : List ℕ} (behind : List ℕ) {n : ℕ} → Found part left text (head ++ behind) → IsMatch head left n
    → Found part (take (length left - n) (drop n left)) text (take (length head - n) (drop n head) ++ behind)
more-sliced {left = left} {head = head} behind {n} f m =
    let here = take n left in
    rw (take_rest left n, take_rest head n) (record {
      eaten = f.eaten ++ here;
      part_is = cc (f.part_is, take-append-drop n left, append_assoc f.eaten here (drop n left));
      text_is = cc (f.text_is, take-append-drop n head, m.same, append_assoc here (drop n head) behind, append_assoc f.eaten here (drop n head ++ behind));
    })

-- nothing of the part is left
pub found-all : {part left text rest : List ℕ} → Found part left text rest → left ≡ [] → text ≡ part ++ rest
found-all f none = cc (f.text_is, f.part_is, append-nil f.eaten)

-- nothing of the text is left, but some of the part is
pub found-short : {part left text : List ℕ} → Found part left text [] → 0 < length left → (rest : List ℕ) → text ≡ part ++ rest → ⊥
found-short f some rest e = omega (arith, some, ap length f.text_is, ap length f.part_is, ap length e, length-append {A = ℕ})

pub no-match : (head left : List ℕ) (n : ℕ) → n ≡ min (length head) (length left) → (take n head ≡ take n left → ⊥) → (x y : List ℕ) → head ++ x ≡ left ++ y → ⊥
no-match head left n c differ x y e =
    let h : n ≤ length head = omega (arith, c) in
    let l : n ≤ length left = omega (arith, c) in
    differ (cc (take-append-le n head x h, take-append-le n left y l))

-- the head is used up where some of the part is left
head-gone : (head left : List ℕ) (n : ℕ) → IsMatch head left n → 0 < length (take (length left - n) (drop n left)) → take (length head - n) (drop n head) ≡ []
head-gone head left n m some =
    let l : 0 < length left - n = rw (take_rest left n, length-drop n left) at some in
    let c = m.count in
    let gone : length (drop n head) ≡ 0 = length-drop n head ∙ (omega (arith, c, l)) in
    take_rest head n ∙ nil_from_length (drop n head) gone

pub if_none : {A : Type 0} (P : Type 0) (r : Option A) → P → IfNone r P
if_none P None p = p
if_none P (Some x) p = tt

positive : (n : ℕ) → (n == 0) ≡ false → 0 < n
positive n e = grind (arith, nat_tests)

pub none-left : (xs : List ℕ) → (length xs == 0) ≡ true → xs ≡ []
none-left xs e = nil_from_length xs ((Decides-eqb (length xs) 0).0 e)

pub past-head : {part left text head : List ℕ} (behind : List ℕ) {n : ℕ} → Found part left text (head ++ behind) → IsMatch head left n
    → (length (take (length left - n) (drop n left)) == 0) ≡ false
    → Found part (take (length left - n) (drop n left)) text behind × (0 < length (take (length left - n) (drop n left)))
past-head {left = left} {head = head} behind {n} f m more =
    let some = positive (length (take (length left - n) (drop n left))) more in
    (rw (head-gone head left n m some) at (more-sliced behind f m), some)

pub found-on : {part left more text rest next : List ℕ} (here : List ℕ) → Found part left text rest → left ≡ here ++ more → rest ≡ here ++ next
    → Found part more text next
found-on {more = more} {next = next} here f left_is rest_is = record {
  eaten = f.eaten ++ here;
  part_is = cc (f.part_is, append_assoc f.eaten here more);
  text_is = cc (f.text_is, append_assoc f.eaten here next);
}

pub not-found-on : {part left text rest : List ℕ} (more here : List ℕ) → Found part left text rest → left ≡ here ++ more
    → ((r : List ℕ) → rest ≡ here ++ r → ⊥) → (r : List ℕ) → text ≡ part ++ r → ⊥
not-found-on {left = left} {rest = rest} more here f left_is none r e =
    none (more ++ r) (append_cancel_left f.eaten rest (here ++ (more ++ r)) (cc (f.text_is, f.part_is, append_assoc f.eaten left r, append_assoc here more r)))

-- the text of the parts from one of them, some of whose code points were read, and what the next step reads
module _ (os : List Outcome) (place skip left : ℕ) {taken : ℕ} {o : Outcome} (at : slice_get os place ≡ Some o) (begun : skip ≤ length o.text)
    (taken_is : taken ≡ min left (o.sum.scalars - skip)) where
  next-is : text_in (drop place os) ≡ o.text ++ text_in (drop (place + 1) os)
  next-is = cc (add-one place, drop-next os place o at)

  taken-least : taken ≡ min left (length (drop skip o.text))
  taken-least = omega (arith, taken_is, o.summed.scalars, length-drop skip o.text)

  -- the code points that the step reads, as a string gives them
  pub step-bytes : {cs here bytes : List ℕ} → cs ≡ o.text → here ≡ encode_utf8_all (take (skip + taken - skip) (drop skip cs)) → bytes ≡ here
      → encode_utf8_all (take left (drop skip (text_in (drop place os)))) ≡ bytes ++ encode_utf8_all (take (left - taken) (text_in (drop (place + 1) os)))
  step-bytes own here_is bytes_is =
      let more = text_in (drop (place + 1) os) in
      let count : skip + taken - skip ≡ taken = omega arith in
      cc (count, next-is, part-step o.text more skip left begun, taken-least, encodes-append (take taken (drop skip o.text)) (take (left - taken) more))

  pub step-enough : skip + left ≤ length (text_in (drop place os)) → 0 + (left - taken) ≤ length (text_in (drop (place + 1) os))
  step-enough enough = read-enough o.text (text_in (drop (place + 1) os)) skip left next-is refl taken-least enough

  pub step-within : skip + taken ≤ length o.text
  step-within = omega (arith, begun, taken_is, o.summed.scalars)

  pub step-fits : (bytes : List ℕ) → IsUtf8 bytes → chars bytes ≡ o.text → skip + taken ≤ length bytes
  step-fits bytes utf8 own = omega (arith, step-within, ap length own, length-le-encodes (chars bytes), ap length (encodes-chars bytes utf8))

pub nothing-behind : (os : List Outcome) (place skip left : ℕ) → slice_get os place ≡ None → skip + left ≤ length (text_in (drop place os)) → 0 < left → ⊥
nothing-behind os place skip left none enough some = omega (arith, ap (λ (xs : List Outcome). length (text_in xs)) (drop-past os place none), enough, some)
