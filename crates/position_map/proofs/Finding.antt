-- The pieces of a document and its tail, as outcomes in a row.
use Rattle.std.proofs.Common.{ℕ, ◌≡◌, refl, ap, ◌∙◌, ◌+◌, ◌*◌, ◌<◌, ◌≤◌, List, [], ◌∷◌, length-append, map, take-append-drop, append_assoc, option_copied}
use Rattle.position_map.proofs.Words.{◌++◌, length, append-nil, arith, Option, Some, None, Bor, length-map, map_none, map-append, option_to_list, option_map}
use Rattle.position_map.proofs.Words.{IfSome, IsFound, total, Placed, Outcome, Sum, total_of, no_sum, joined, Document, decoded, sum_in_outcome, IsFoundBy}
use Rattle.position_map.proofs.Words.{IsMade, AreMade, body_of, tail_of, count_body, HasOutputs, HaveOutputs, AreAllPieces, AreAtLeast, AreAtMost, pieces_most}
use Rattle.piece_rope.specs.{Entry.Entry, Entry.here_of, Entry.entry_sum, Sizes.AreSized, Sizes.AreCounted, Sizes.shortest, Chain.bytes_of}

made-last : (os : List Outcome) (tail : Outcome) (base end : ℕ) (ps qs : List Placed) → AreMade base ps os
    → end ≡ base + (total_of os).bytes → IsMade end qs tail → AreMade base (ps ++ qs) (os ++ tail ∷ [])
made-last [] tail base end ps qs m e t =
    let same : end ≡ base = e ∙ omega arith in (qs, [], rw (m, append-nil) refl, rw same at t, refl)
made-last (o ∷ os) tail base end ps qs m e t =
    (m.0, m.1 ++ qs, rw (m.2, append_assoc) refl, m.3, made-last os tail (base + o.sum.bytes) end m.1 qs m.4 (e ∙ omega arith) t)

outputs-last : (d : Document) (os : List Outcome) (tail : Outcome) (base end : ℕ) → HaveOutputs d base os
    → end ≡ base + (total_of os).bytes → HasOutputs d end tail.items → HaveOutputs d base (os ++ tail ∷ [])
outputs-last d [] tail base end h e t = let same : end ≡ base = e ∙ omega arith in (rw same at t, tt)
outputs-last d (o ∷ os) tail base end h e t = (h.0, outputs-last d os tail (base + o.sum.bytes) end h.1 (e ∙ omega arith) t)

total-heres : (es : List Entry) → AreCounted es → (total_of (map here_of es)).bytes ≡ length (bytes_of es)
total-heres [] c = refl
total-heres (x ∷ xs) c = omega (arith, c.0, total-heres xs c.1, length-append x.piece.bytes (bytes_of xs))

sized : (least : ℕ) (es : List Entry) → AreSized least es → AreCounted es → AreAtLeast least (map here_of es) × AreAtMost 2048 (map here_of es)
sized least [] s c = (tt, tt)
sized least (x ∷ xs) s c = let w = sized least xs s.2 c.1 in ((omega (arith, s.0, c.0), w.0), (omega (arith, s.1, c.0), w.1))

long-count : (os : List Outcome) → AreAtLeast 512 os → 512 * length os ≤ (total_of os).bytes
long-count [] s = omega arith
long-count (o ∷ os) s = omega (arith, s.0, long-count os s.1)

few-pieces : (d : Document) (os : List Outcome) → (total_of os).bytes ≡ length d.bytes → (1 < length os → AreAtLeast 512 os) → length os ≤ pieces_most d
few-pieces d [] b w = omega arith
few-pieces d (x ∷ []) b w = omega arith
few-pieces d (x ∷ y ∷ os) b w = omega (arith, long-count (x ∷ y ∷ os) (w (omega arith)), b)

pub whole-of : (d : Document) (es : List Entry) (tail : Outcome) → AreMade 0 (body_of d) (map here_of es) → bytes_of es ≡ d.bytes
    → AreSized 1 es → (2 ≤ length es → AreSized shortest es) → AreCounted es
    → IsMade (length d.bytes) (tail_of d) tail → tail.sum.bytes ≡ 0 → HaveOutputs d 0 (map here_of es)
    → HasOutputs d (length d.bytes) tail.items → AreAllPieces d (map here_of es) tail
whole-of d es tail made b small wide counted ended none outputs last =
    let all : (total_of (map here_of es)).bytes ≡ length d.bytes = total-heres es counted ∙ ap length b in
    let end : length d.bytes ≡ 0 + (total_of (map here_of es)).bytes = omega (arith, all) in
    let long : 1 < length (map here_of es) → AreAtLeast 512 (map here_of es) =
    λ h. (sized 512 es (wide (omega (arith, h, length-map es here_of))) counted).0 in
    record {
      made = rw (take-append-drop (count_body d) (decoded d).items)
          at (made-last (map here_of es) tail 0 (length d.bytes) (body_of d) (tail_of d) made end ended);
      bytes = all;
      no_bytes = none;
      some = (sized 1 es small counted).0;
      long = long;
      short = (sized 1 es small counted).1;
      few = few-pieces d (map here_of es) all long;
      outputs = outputs-last d (map here_of es) tail 0 (length d.bytes) outputs end last;
    }

at_most-found : (most : ℕ) (front : List Outcome) (o : Outcome) (back : List Outcome) → AreAtMost most (front ++ o ∷ back) → o.sum.bytes ≤ most
at_most-found most [] o back h = h.0
at_most-found most (x ∷ xs) o back h = at_most-found most xs o back h.1

-- a piece that is found is short
pub found-short : (measured : Sum → ℕ) (target : ℕ) (d : Document) (os : List Outcome) (tail : Outcome) (s : Sum) (o : Outcome)
    → AreAllPieces d os tail → IsFoundBy measured target os s (Some o) → o.sum.bytes ≤ 2048
found-short measured target d os tail s o w f = at_most-found 2048 f.front o f.back (rw f.split at w.short)

map-option : (o : Option Entry) → map here_of (option_to_list o) ≡ option_to_list (option_map here_of o)
map-option None = refl
map-option (Some x) = refl

total-map : (xs : List Entry) → total no_sum joined entry_sum xs ≡ total_of (map here_of xs)
total-map [] = refl
total-map (x ∷ xs) = ap (joined (entry_sum x)) (total-map xs)

high-map : (P : Sum → Type 0) (s : Sum) (o : Option Entry) → IfSome o (λ e. P (joined s (entry_sum e)))
    → IfSome (option_map here_of o) (λ x. P (joined s (sum_in_outcome x)))
high-map P s None h = h
high-map P s (Some x) h = h

-- a search over pieces is one over what they decode to
pub found-map : (measured : Sum → ℕ) (target : ℕ) (es : List Entry) (s : Sum) (x : Option Entry) → IsFound measured target no_sum joined entry_sum es s x
    → IsFoundBy measured target (map here_of es) s (option_map here_of x)
found-map measured target es s x f = record {
  front = map here_of f.front;
  back = map here_of f.back;
  split = rw (f.split, map-append here_of f.front (option_to_list x ++ f.back), map-append here_of (option_to_list x) f.back, map-option x) refl;
  ends = λ e. ap (map here_of) (f.ends (map_none here_of x e));
  sum = f.sum ∙ total-map f.front;
  low = f.low;
  high = high-map (λ v. target < measured v) s x f.high;
}

-- what a search gives, by the piece's outcome
pub found-some : (measured : Sum → ℕ) (target : ℕ) (es : List Entry) (s : Sum) (r : Option (Bor Entry)) (b : Bor Entry) (o : Bor Outcome)
    → r ≡ Some b → o.now ≡ here_of b.now
    → IsFound measured target no_sum joined entry_sum es s (option_copied r) → IsFoundBy measured target (map here_of es) s (Some o.now)
found-some measured target es s r b o is here f = rw here (found-map measured target es s (Some b.now) (rw is at f))

pub found-none : (measured : Sum → ℕ) (target : ℕ) (es : List Entry) (s : Sum) (r : Option (Bor Entry)) → r ≡ None
    → IsFound measured target no_sum joined entry_sum es s (option_copied r) → IsFoundBy measured target (map here_of es) s None
found-none measured target es s r is f = found-map measured target es s None (rw is at f)
