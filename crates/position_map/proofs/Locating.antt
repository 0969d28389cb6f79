-- Where a piece that was found stands in the text.
use Rattle.position_map.proofs.Words.{ℕ, ◌≡◌, refl, ap, ◌+◌, ◌<◌, inl, inr, List, [], ◌∷◌, ◌++◌, arith, flat_map, Placed, item_code_points, code_points, Axis}
use Rattle.position_map.proofs.Words.{Byte, Scalar, by_utf16, by_utf8, by_mark as Mark, measure, Ended, Outcome, Sum, IsSumOf, total_of, joined, Document}
use Rattle.position_map.proofs.Words.{decoded, text_of, decoded_text, IsPlaced, Pieced, IsLocated, IsOfText, reach, AreMade, AreAllPieces}
use Rattle.std.proofs.lemmas.Grind.{flat_map-append}

abbrev pub text_in : Outcome → List ℕ
text_in o = o.text

abbrev pub items_in : Outcome → List Ended
items_in o = o.items

abbrev pub texts : List Outcome → List ℕ
texts os = flat_map text_in os

abbrev pub items : List Outcome → List Ended
items os = flat_map items_in os

-- the numbers of two texts in a row are the join of theirs
abbrev pub Joins : Type 0
Joins = (a b : List ℕ) (is js : List Ended) (s t : Sum) → IsSumOf a is s → IsSumOf b js t → IsSumOf (a ++ b) (is ++ js) (joined s t)

made-text : (os : List Outcome) (base : ℕ) (ps : List Placed) → AreMade base ps os → code_points ps ≡ texts os
made-text [] base ps m = ap code_points m
made-text (o ∷ os) base ps m =
    rw (m.2, flat_map-append (λ (p : Placed). item_code_points p.item) m.0 m.1, ← m.3.text, made-text os (base + o.sum.bytes) m.1 m.4) refl

-- the text is that of the pieces and the tail
pub whole-text : (d : Document) (os : List Outcome) (tail : Outcome) → AreAllPieces d os tail → text_of d ≡ texts (os ++ tail ∷ [])
unfolding decoded_text
whole-text d os tail w = made-text (os ++ tail ∷ []) 0 (decoded d).items w.made

pub sum-total : Joins → (os : List Outcome) → IsSumOf (texts os) (items os) (total_of os)
sum-total joins [] = record { scalars = refl; utf16 = refl; utf8 = refl; errors = refl; marks = refl; lf_first = refl; cr_last = refl; counted = refl }
sum-total joins (o ∷ os) = joins (text_in o) (texts os) (items_in o) (items os) o.sum (total_of os) o.summed (sum-total joins os)

-- how far a text reaches, by its sum
measured : (axis : Axis) (cs : List ℕ) (is : List Ended) (s : Sum) (n : ℕ) → IsSumOf cs is s → n < measure axis s → IsOfText axis → n < reach axis cs
measured Byte cs is s n x l h = absurd h
measured Scalar cs is s n x l h = omega (arith, x.scalars)
measured by_utf16 cs is s n x l h = omega (arith, x.utf16)
measured by_utf8 cs is s n x l h = omega (arith, x.utf8)
measured Mark cs is s n x l h = omega (arith, x.marks)

-- what a search finds
pub located : Joins → (axis : Axis) (d : Pieced) (n : ℕ) (s : Sum) (o : Outcome) → IsPlaced (measure axis) d n s o → AreAllPieces d.doc d.pieces d.tail
    → IsOfText axis → IsLocated axis n (text_of d.doc) s o.text
located joins axis d n s o p w of_text =
    let before : IsSumOf (texts p.front) (items p.front) s = rw p.sum (sum-total joins p.front) in
    let both = joins (texts p.front) o.text (items p.front) o.items s o.sum before o.summed in
    record {
      front = texts p.front;
      items = items p.front;
      back = texts p.back;
      split = rw (whole-text d.doc d.pieces d.tail w, p.split) (flat_map-append text_in p.front (o ∷ p.back));
      sum = before;
      low = p.low;
      high = elim p.high [
        | inl e ↦ inl (ap texts e)
        | inr h ↦ inr (measured axis (texts p.front ++ o.text) (items p.front ++ o.items) (joined s o.sum) n both h of_text)
      ];
    }
