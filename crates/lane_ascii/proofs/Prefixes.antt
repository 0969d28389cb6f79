-- Runs at the front, block by block.
use Rattle.std.proofs.Common.{◌≡◌, ℕ, ◌+◌, ◌<◌, ◌≤◌, Bool, not, cond, List, length, take, drop, map, sym, ap, ◌∙◌, arith, ◌==◌, take_all, take-append-drop}
use Rattle.std.proofs.{Common.length-drop, Common.length-take, Common.length-take-le, Math.Bool.not-not, lemmas.Bool.Decides.nat_tests}
use Rattle.std.proofs.lemmas.{List.Folds.prefix_len-append, List.Sums.prefix_len-le-length, Simd.first_set_mask_l, Simd.length-chunk}
use Rattle.std.specs.List.{prefix_len}
use mathlib.Core.Path.{fun_ext}
use Rattle.lane_ascii.specs.Bits.{first_set}
use lib.Lanes.{mask_l}

module _ (p : ℕ → Bool) where
  pub not_not : (xs : List ℕ) → prefix_len (λ x. not (not (p x))) xs ≡ prefix_len p xs
  not_not xs = ap (λ q. prefix_len q xs) (fun_ext (λ x. not-not (p x)))

  -- the run by a block before it: it stops there, or continues after it
  split : (n : ℕ) (xs : List ℕ) → n ≤ length xs
      → prefix_len p xs ≡ cond (prefix_len p (take n xs) == n) (n + prefix_len p (drop n xs)) (prefix_len p (take n xs))
  split n xs h =
      let cut = prefix_len-append p (take n xs) (drop n xs) in
      ap (prefix_len p) (sym (take-append-drop n xs)) ∙ (rw (length-take-le n xs h) at cut)

  -- bytes of the run are followed by the rest of it
  pub behind : (k : ℕ) (xs : List ℕ) → k ≤ prefix_len p xs → k + prefix_len p (drop k xs) ≡ prefix_len p xs
  behind k xs h =
      let within : k ≤ length xs = omega (arith, prefix_len-le-length p xs) in
      grind (arith, nat_tests, split k xs within, prefix_len-le-length p (take k xs), length-take-le k xs within)

  pub ends_in : (xs : List ℕ) (at n r : ℕ) → at ≤ prefix_len p xs → at + n ≤ length xs → r ≡ prefix_len p (take n (drop at xs)) → r < n
      → at + r ≡ prefix_len p xs
  ends_in xs at n r front room run h =
      grind (arith, nat_tests, behind at xs front, split n (drop at xs) (omega (arith, length-drop at xs)))

  pub goes_on : (xs : List ℕ) (at n r : ℕ) → at ≤ prefix_len p xs → r ≡ prefix_len p (take n (drop at xs)) → n ≤ r → at + n ≤ prefix_len p xs
  goes_on xs at n r front run h =
      let less = prefix_len-le-length p (take n (drop at xs)) in
      let within : n ≤ length (drop at xs) = omega (arith, less, length-take n (drop at xs)) in
      let long = length-take-le n (drop at xs) within in
      grind (arith, nat_tests, behind at xs front, split n (drop at xs) within, less, long)

  -- a block at the end, which may begin before what was seen
  pub last_block : (xs : List ℕ) (at n r seen : ℕ) → seen ≤ prefix_len p xs → at ≤ seen → at + n ≡ length xs
      → r ≡ prefix_len p (take n (drop at xs)) → at + r ≡ prefix_len p xs
  last_block xs at n r seen front overlaps room run =
      let long : length (drop at xs) ≡ n = omega (arith, length-drop at xs) in
      let whole : take n (drop at xs) ≡ drop at xs = take_all n (drop at xs) (omega (arith, long)) in
      omega (arith, behind at xs (omega arith), run, ap (prefix_len p) whole)

  pub run_of_block : (xs : List ℕ) (at n mask r : ℕ) → at + n ≤ length xs → n ≤ 64 → mask ≡ mask_l (map (λ b. not (p b)) (take n (drop at xs)))
      → r ≡ first_set mask n → r ≡ prefix_len p (take n (drop at xs))
  run_of_block xs at n mask r room few is first =
      let block = take n (drop at xs) in
      first ∙ ap (λ m. first_set m n) is ∙ first_set_mask_l (λ b. not (p b)) block n (length-chunk at n xs room) few ∙ not_not block
