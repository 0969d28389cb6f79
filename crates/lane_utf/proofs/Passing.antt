-- Places along bytes, block by block.
use Rattle.std.proofs.Common.{◌≡◌, refl, ap, ℕ, ◌+◌, ◌-◌, ◌≤◌, List, [], ◌∷◌, ◌++◌, length, take, drop, arith}
use Rattle.std.proofs.lemmas.{Bool.Decides.nat_tests, Simd.chunk-drop, Simd.length-chunk}
use Rattle.lane_utf.specs.{Selected.moved, Weights.place_in, Widths.total_width, declared.select.Select.Select, declared.select.Select.TheVariants.At}

pub moved-none : (s : Select) → moved 0 s ≡ s
moved-none (At i) = ap At (omega arith)
moved-none s = refl

pub moved-more : (a b : ℕ) (s : Select) → moved a (moved b s) ≡ moved (a + b) s
moved-more a b (At i) = ap At (omega arith)
moved-more a b s = refl

module _ (weight : ℕ → ℕ) where
  -- over one byte
  past_one : (b : ℕ) (bs : List ℕ) (n : ℕ) → weight b ≤ n → place_in weight (b ∷ bs) n ≡ moved 1 (place_in weight bs (n - weight b))
  past_one b bs n h = grind (arith, nat_tests)

  pub past : (block rest : List ℕ) (n : ℕ) → total_width weight block ≤ n
      → place_in weight (block ++ rest) n ≡ moved (length block) (place_in weight rest (n - total_width weight block))
  past [] rest n h = grind (arith, moved-none)
  past (b ∷ bs) rest n h = grind (arith, past_one b (bs ++ rest) n (omega (arith, h)), past bs rest (n - weight b) (omega (arith, h)), moved-more)

  -- the same along a slice
  pub past_block : (xs : List ℕ) (at n left sum : ℕ) → at + n ≤ length xs → sum ≡ total_width weight (take n (drop at xs)) → sum ≤ left
      → moved (at + n) (place_in weight (drop (at + n) xs) (left - sum)) ≡ moved at (place_in weight (drop at xs) left)
  past_block xs at n left sum room is h =
      let whole = past (take n (drop at xs)) (drop (at + n) xs) left (omega (arith, is, h)) in
      grind (arith, chunk-drop at n xs, whole, moved-more, length-chunk at n xs room)
