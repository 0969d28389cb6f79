-- Swapping block by block.
use Rattle.std.proofs.Common.{◌≡◌, ℕ, zero, suc, ◌+◌, ◌*◌, ◌<◌, ◌≤◌, T, List, [], ◌∷◌, ◌++◌, length, take, drop, get_or, refl, sym, ap, ap₂, ◌∙◌, arith}
use Rattle.std.proofs.Common.{append_assoc, length-drop, drop-cons, drop-drop, set, length-take-le, length-append, take-append-drop}
use Rattle.std.proofs.lemmas.{List.drop_all, List.Edits.swap_is, Simd.put_chunk_is, Simd.take_more_put_chunk, Simd.pick_l_left, Simd.length-chunk}
use Rattle.std.{proofs.lemmas.Slice.drop-append-drop, specs.List.swap}
use lib.Lanes.{pick_l, put_chunk, all_below}
use Rattle.lane_ascii.specs.Pairs.{swapped, swapped_from}

-- the positions of k swapped pairs that begin at a
abbrev pub crossed : ℕ → ℕ → List ℕ
crossed a zero = []
crossed a (suc k) = suc a ∷ a ∷ crossed (suc (suc a)) k

pub pair_at : (xs : List ℕ) (a : ℕ) → a + 2 ≤ length xs → drop a xs ≡ get_or xs a 0 ∷ get_or xs (suc a) 0 ∷ drop (suc (suc a)) xs
pair_at xs a h = drop-cons xs a 0 (omega arith) ∙ ap (λ r. get_or xs a 0 ∷ r) (drop-cons xs (suc a) 0 (omega arith))

picked : (xs : List ℕ) (k a : ℕ) → a + 2 * k ≡ length xs → pick_l 0 xs (crossed a k) ≡ swapped (drop a xs)
picked xs zero a h = ap swapped (sym (drop_all a xs (omega arith)))
picked xs (suc k) a h =
    ap (λ r. get_or xs (suc a) 0 ∷ get_or xs a 0 ∷ r) (picked xs k (suc (suc a)) (omega arith)) ∙ ap swapped (sym (pair_at xs a (omega arith)))

pub length-swapped : (xs : List ℕ) → length (swapped xs) ≡ length xs
length-swapped (x ∷ y ∷ xs) = ap (λ n. suc (suc n)) (length-swapped xs)
length-swapped xs = refl

swapped-append : (k : ℕ) (xs ys : List ℕ) → length xs ≡ 2 * k → swapped (xs ++ ys) ≡ swapped xs ++ swapped ys
swapped-append zero [] ys e = refl
swapped-append (suc k) (x ∷ y ∷ xs) ys e = ap (λ r. y ∷ x ∷ r) (swapped-append k xs ys (omega arith))
swapped-append k xs ys e = absurd (omega arith)

-- what follows a block that is put stays
pub behind_chunk : (at n : ℕ) (xs ys : List ℕ) → length ys ≡ n → at + n ≤ length xs → drop (at + n) (put_chunk at xs ys) ≡ drop (at + n) xs
behind_chunk at n xs ys long room =
    let front : length (take at xs ++ ys) ≡ at + n = omega (arith, length-append (take at xs) ys, length-take-le at xs (omega arith)) in
    let same = drop-drop (length ys) at xs ∙ ap (λ m. drop (at + m) xs) long in
    ap (drop (at + n)) (put_chunk_is at xs ys (omega arith) ∙ sym (append_assoc (take at xs) ys _) ∙ ap (λ l. (take at xs ++ ys) ++ l) same)
    ∙ drop-append-drop (at + n) xs (take at xs ++ ys) (at + n) (omega arith) front

-- a block of pairs that is put back swapped
stored : (xs ys : List ℕ) (at n k : ℕ) → n ≡ 2 * k → at + n ≤ length xs → ys ≡ swapped (take n (drop at xs))
    → swapped_from (at + n) (put_chunk at xs ys) ≡ swapped_from at xs
stored xs ys at n k even room is =
    let block = take n (drop at xs) in
    let rest = drop n (drop at xs) in
    let long : length block ≡ n = length-take-le n (drop at xs) (omega (arith, length-drop at xs)) in
    let size : length ys ≡ n = ap length is ∙ length-swapped block ∙ long in
    let front : take (at + n) (put_chunk at xs ys) ≡ take at xs ++ ys = take_more_put_chunk at xs ys (at + n) (omega arith) room in
    let back : drop (at + n) (put_chunk at xs ys) ≡ rest = behind_chunk at n xs ys size room ∙ sym (drop-drop n at xs) in
    let pairs : swapped (drop at xs) ≡ ys ++ swapped rest =
    ap swapped (sym (take-append-drop n (drop at xs))) ∙ swapped-append k block rest (long ∙ even) ∙ ap (λ r. r ++ swapped rest) (sym is) in
    ap₂ (λ a b. a ++ swapped b) front back ∙ append_assoc (take at xs) ys (swapped rest) ∙ ap (λ r. take at xs ++ r) (sym pairs)

-- the same, as vectors do it
pub block_stored : (xs : List ℕ) (at n k : ℕ) → n ≡ 2 * k → at + n ≤ length xs → T (all_below n (crossed 0 k))
    → swapped_from (at + n) (put_chunk at xs (pick_l 0 (take n (drop at xs) ++ take n (drop at xs)) (crossed 0 k))) ≡ swapped_from at xs
block_stored xs at n k even room inside =
    let block = take n (drop at xs) in
    let long : length block ≡ n = length-chunk at n xs room in
    stored xs _ at n k even room (pick_l_left 0 block block n (crossed 0 k) long inside ∙ picked block k 0 (omega arith))

-- one pair
pub pair_stored : (xs : List ℕ) (at : ℕ) → at + 2 ≤ length xs → swapped_from (at + 2) (swap xs at (at + 1)) ≡ swapped_from at xs
pair_stored xs at room =
    let one : at + 1 ≡ suc at = omega arith in
    let two : at + 2 ≡ suc (suc at) = omega arith in
    ap₂ (λ i j. swapped_from j (swap xs at i)) one two
    ∙ ap (swapped_from (suc (suc at))) (sym (swap_is xs at (suc at) 0 (omega arith) (omega arith))) ∙ go xs at room
  where
    go : (xs : List ℕ) (at : ℕ) → at + 2 ≤ length xs
        → swapped_from (suc (suc at)) (set (set xs at (get_or xs (suc at) 0)) (suc at) (get_or xs at 0)) ≡ swapped_from at xs
    go (x ∷ y ∷ xs) zero h = refl
    go (x ∷ y ∷ xs) (suc at) h = ap (λ r. x ∷ r) (go (y ∷ xs) at (omega arith))
    go xs at h = absurd (omega arith)

-- fewer than two are left
pub none_left : (xs : List ℕ) (at : ℕ) → length xs < at + 2 → swapped_from at xs ≡ xs
none_left (x ∷ xs) (suc at) h = ap (λ r. x ∷ r) (none_left xs at (omega arith))
none_left (x ∷ y ∷ xs) zero h = absurd (omega arith)
none_left [] (suc at) h = refl
none_left xs at h = refl
