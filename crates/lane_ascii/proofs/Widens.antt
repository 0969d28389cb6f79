-- Widening block by block.
use Rattle.std.proofs.Common.{◌≡◌, ℕ, ◌+◌, ◌≤◌, List, ◌++◌, length, take, drop, map, sym, ap, ap₂, ◌∙◌, arith, append_assoc, take-add, take-take, drop-drop}
use Rattle.std.proofs.{Common.map-id, Common.length-take-le, lemmas.List.length-take-le, lemmas.List.take-append-le}
use Rattle.std.proofs.lemmas.{Simd.put_chunk_is, Simd.length-chunk, Slice.drop-append-drop}
use lib.Lanes.{put_chunk}

-- the first n of the bytes, over the first n of the units
abbrev pub written : List ℕ → List ℕ → ℕ → List ℕ
written bytes units n = take n bytes ++ drop n units

-- n more that begin at `at`, if a of them are written, of which the block may write some again
pub more : (bytes units : List ℕ) (a at n : ℕ) (old new : List ℕ) → at ≤ a → a ≤ at + n → at + n ≤ length bytes → old ≡ written bytes units a
    → new ≡ take at old ++ (take n (drop at bytes) ++ drop (at + n) old) → new ≡ written bytes units (at + n)
more bytes units a at n old new from to room so_far is =
    let long : length (take a bytes) ≡ a = length-take-le a bytes (omega arith) in
    let front : take at (written bytes units a) ≡ take at bytes = take-append-le at (take a bytes) (drop a units) (omega arith)
    ∙ take-take at a bytes from in
    let back : drop (at + n) (written bytes units a) ≡ drop (at + n) units = drop-append-drop a units (take a bytes) (at + n) to long in
    is ∙ ap₂ (λ f b. f ++ (take n (drop at bytes) ++ b)) (ap (take at) so_far ∙ front) (ap (drop (at + n)) so_far ∙ back)
    ∙ sym (append_assoc (take at bytes) (take n (drop at bytes)) (drop (at + n) units))
    ∙ ap (λ f. f ++ drop (at + n) units) (sym (take-add at n bytes))

-- a byte is the same number as a unit
pub block_written : (bytes units : List ℕ) (at n : ℕ) → at + n ≤ length bytes → at + n ≤ length units
    → put_chunk at units (map (λ (b : ℕ). b) (take n (drop at bytes))) ≡ take at units ++ (take n (drop at bytes) ++ drop (at + n) units)
block_written bytes units at n room place =
    let v = take n (drop at bytes) in
    let long : length v ≡ n = length-chunk at n bytes room in
    ap (put_chunk at units) (map-id v)
    ∙ put_chunk_is at units v (omega arith)
    ∙ ap (λ m. take at units ++ (v ++ drop m (drop at units))) long
    ∙ ap (λ r. take at units ++ (v ++ r)) (drop-drop n at units)
