-- The numbers of bytes of pieces, and the sums that count them.
use Rattle.state_memo.specs.declared.axis.Axis.TheVariants.{Byte}
use Rattle.piece_rope.proofs.Prelude.{◌≡◌, refl, ap, ◌∙◌, ℕ, zero, suc, ◌+◌, ◌*◌, ◌≤◌, List, [], ◌∷◌, take, length, Option, Some, None, option_map, arith}
use Rattle.piece_rope.proofs.Prelude.{length-append, add-one, AnyDecoding, AnyState, feed, any, Outcome, Contents, contents_of, outcome_of, Sum, no_sum, joined}
use Rattle.piece_rope.proofs.Prelude.{measure, IsFirstAbove, Entry, here, here_of, entry_sum, outcome_or, sums_of, Chain, IsOwn, bytes_of, AreSized, AreCounted}
use Rattle.piece_rope.proofs.Prelude.{AreShort, bytes_before, document_limit, most_pieces, shortest, HasSizes, IsPlace, Laws, sym, ◌++◌, drop, slice_get}
use Rattle.piece_rope.proofs.Prelude.{take-append-drop, inl, inr, longest, cases_lt, take_all, element, take-take}
use Rattle.piece_rope.proofs.Chaining.{bytes-append, bytes-next}

pub sums-bytes : (ps : List Entry) → AreCounted ps → (sums_of ps).bytes ≡ length (bytes_of ps)
sums-bytes [] c = refl
sums-bytes (p ∷ ps) c = omega (arith, c.0, sums-bytes ps c.1, length-append p.piece.bytes (bytes_of ps))

pub counted-take : (n : ℕ) (ps : List Entry) → AreCounted ps → AreCounted (take n ps)
counted-take zero ps c = tt
counted-take (suc n) [] c = tt
counted-take (suc n) (p ∷ ps) c = (c.0, counted-take n ps c.1)

here-contents : (s : AnyState) (o : Option Outcome) (c : Contents) → option_map contents_of o ≡ Some c → contents_of (outcome_or s o) ≡ c
here-contents s None c e = absurd cc
here-contents s (Some o) c e = cc

-- what a piece decodes to from the state in which it is entered
pub here-of : {d : AnyDecoding} (p : Entry) {s : AnyState} → p.entry ≡ s → IsOwn d p → contents_of (here_of p) ≡ outcome_of d s p.piece.bytes
here-of {d} p entry_is own =
    here-contents p.entry (here p) (outcome_of d p.entry p.piece.bytes) own.here_is ∙ ap (λ (t : AnyState). outcome_of d t p.piece.bytes) entry_is

pub chain-counted : {d : AnyDecoding} → Laws d → (s : AnyState) (ps : List Entry) → Chain d s ps → AreCounted ps
chain-counted laws s [] c = tt
chain-counted {d} laws s (p ∷ ps) c = (
  ap (λ (x : Contents). x.sum.bytes) (here-of p refl c.1) ∙ laws.bytes p.entry p.piece.bytes,
  chain-counted laws (feed (any d) s p.piece.bytes).state ps c.2,
)

pub short-of : (least : ℕ) (ps : List Entry) → AreSized least ps → AreCounted ps → AreShort ps
short-of least [] s c = tt
short-of least (p ∷ ps) s c = (omega (arith, s.1, c.0), short-of least ps s.2 c.1)

wide-pieces : (ps : List Entry) → AreSized shortest ps → 512 * length ps ≤ length (bytes_of ps)
wide-pieces [] s = omega arith
wide-pieces (p ∷ ps) s = omega (arith, s.0, wide-pieces ps s.2, length-append p.piece.bytes (bytes_of ps))

pub few-pieces : (ps : List Entry) → HasSizes ps → length (bytes_of ps) ≤ document_limit → length ps ≤ most_pieces
few-pieces [] sizes within = omega arith
few-pieces (p ∷ []) sizes within = omega arith
few-pieces (p ∷ q ∷ ps) sizes within = omega (arith, within, wide-pieces (p ∷ q ∷ ps) (sizes.wide (omega arith)))

-- the sum before what a search finds is no more than what it looked for
pub found-low : (measure : Sum → ℕ) (ps : List Entry) (target k : ℕ) (s : Sum) → measure no_sum ≡ 0
    → IsFirstAbove measure target no_sum joined entry_sum ps k s → measure s ≤ target
found-low measure ps target zero s none found = omega (arith, ap measure found.sum, none)
found-low measure ps target (suc j) s none found =
    omega (arith, ap measure found.sum, ap (λ (n : ℕ). measure (sums_of (take n ps))) (add-one j), found.before j (omega arith))

-- a search by bytes finds the place
pub found-place : {ps : List Entry} {target k : ℕ} {s : Sum} → AreCounted ps → IsFirstAbove (measure Byte) target no_sum joined entry_sum ps k s
    → IsPlace ps target k s.bytes
found-place {ps} {target} {k} {s} c found =
    let count : (n : ℕ) → (sums_of (take n ps)).bytes ≡ bytes_before ps n = λ n. sums-bytes (take n ps) (counted-take n ps c) in
    let before : s.bytes ≡ bytes_before ps k = ap (λ (t : Sum). t.bytes) found.sum ∙ count k in
    record {
      within = found.within;
      before_is = before;
      low = found-low (measure Byte) ps target k s refl found;
      high = λ l. omega (arith, found.behind l, count (k + 1), ap (λ (n : ℕ). bytes_before ps n) (add-one k));
    }

pub bytes-split : (ps : List Entry) (k : ℕ) → bytes_of ps ≡ bytes_of (take k ps) ++ bytes_of (drop k ps)
bytes-split ps k = ap bytes_of (sym (take-append-drop k ps)) ∙ bytes-append (take k ps) (drop k ps)

pub before-le : (ps : List Entry) (k : ℕ) → bytes_before ps k ≤ length (bytes_of ps)
before-le ps k = omega (arith, ap length (bytes-split ps k), length-append (bytes_of (take k ps)) (bytes_of (drop k ps)))

pub before-mono : (ps : List Entry) (i k : ℕ) → i ≤ k → bytes_before ps i ≤ bytes_before ps k
before-mono ps i k l = omega (arith, before-le (take k ps) i, ap (λ (xs : List Entry). length (bytes_of xs)) (take-take i k ps l))

pub before-all : (ps : List Entry) (k : ℕ) → length ps ≤ k → bytes_before ps k ≡ length (bytes_of ps)
before-all ps k l = ap (λ (xs : List Entry). length (bytes_of xs)) (take_all k ps l)

pub sized-at : (least : ℕ) (ps : List Entry) (k : ℕ) (p : Entry) → AreSized least ps → slice_get ps k ≡ Some p
    → (least ≤ length p.piece.bytes) × (length p.piece.bytes ≤ longest)
sized-at least [] k p s at = absurd cc
sized-at least (x ∷ ps) zero p s at = let e : x ≡ p = cc in rw (← e) (s.0, s.1)
sized-at least (x ∷ ps) (suc k) p s at = sized-at least ps k p s.2 at

-- a step further, by at most `longest` bytes
pub before-step : (ps : List Entry) (k : ℕ) → AreSized 1 ps → bytes_before ps (suc k) ≤ bytes_before ps k + longest
before-step ps k s = elim (cases_lt k (length ps)) [
  | inl l ↦ let p = element ps k l in omega (arith, bytes-next ps k p.0 p.1, (sized-at 1 ps k p.0 s p.1).1)
  | inr h ↦ omega (arith, before-all ps k h, before-all ps (suc k) (omega (arith, h)))
]

pub place-near : (ps : List Entry) (at k before : ℕ) → IsPlace ps at k before → at ≤ length (bytes_of ps) → AreSized 1 ps → at ≤ before + longest
place-near ps at k before place within small = elim (cases_lt k (length ps)) [
  | inl l ↦ omega (arith, place.high l, before-step ps k small, place.before_is)
  | inr h ↦ omega (arith, before-all ps k h, place.before_is, within)
]
