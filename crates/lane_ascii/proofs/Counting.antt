-- Counting marks block by block.
use Rattle.std.proofs.Common.{◌≡◌, ℕ, ◌+◌, ◌-◌, ◌<◌, ◌≤◌, Bool, List, length, take, drop, arith, subst}
use Rattle.std.specs.Int.RustNames.{count_ones}
use Rattle.lane_ascii.specs.{Flags.flags_set, Flags.IsNthFlag, Marks.marks, Marks.mark_flags, Marks.IsNthMark}
use Rattle.lane_ascii.proofs.{Flags.ones_of, Flags.set-le, Flags.set-more, Flags.set-rest, MarkLanes.marks-flags, MarkLanes.length-flags, MarkLanes.nth_mark}
use lib.Lanes.{mask_l}

-- `count` flags are set before an index
pub record IsCounted (f : Bool) (bytes : List ℕ) (at count : ℕ) : Type 0 where
  pub some : 0 < at
  pub within : at ≤ length bytes
  pub counted : count ≡ flags_set (take at (mark_flags f bytes))

-- the place of the flag that has k set ones before it, in whichever flags have the mask
abbrev Finds : ℕ → ℕ → ℕ → Type 0
Finds mask k r = (fs : List Bool) → length fs ≤ 64 → mask ≡ mask_l fs → k < flags_set fs → IsNthFlag fs k r

module _ {f : Bool} {bytes : List ℕ} {at count : ℕ} (c : IsCounted f bytes at count) where
  abbrev flags : List Bool
  flags = mark_flags f bytes

  -- as many as there are bytes, at most
  pub counted-le : count ≤ length bytes
  counted-le = omega (arith, c.counted, set-rest flags at, set-le flags, length-flags f bytes)

  pub counted_on : (n : ℕ) {more : ℕ} → at + n ≤ length bytes → more ≡ flags_set (take n (drop at flags)) → IsCounted f bytes (at + n) (count + more)
  counted_on n room is = record {
    some = omega (arith, c.some);
    within = room;
    counted = omega (arith, c.counted, is, set-more flags at n);
  }

  pub counted_more : (n : ℕ) {mask : ℕ} → at + n ≤ length bytes → mask ≡ mask_l (take n (drop at flags)) → IsCounted f bytes (at + n) (count + count_ones mask)
  counted_more n room is = counted_on n room (ones_of (take n (drop at flags)) is)

  pub counted_all : {mask : ℕ} → mask ≡ mask_l (drop at flags) → count + count_ones mask ≡ marks f bytes
  counted_all is = omega (arith, c.counted, ones_of (drop at flags) is, set-rest flags at, marks-flags f bytes)

  -- the flag that is found in what a mask has is the mark
  pub mark_in : (gs : List Bool) (n mask r : ℕ) → ((k : ℕ) → IsNthFlag gs k r → IsNthFlag flags (flags_set (take at flags) + k) (at + r)) → count ≤ n
      → length gs ≤ 64 → n - count < count_ones mask → mask ≡ mask_l gs → Finds mask (n - count) r → IsNthMark f bytes n (at + r)
  mark_in gs n mask r among le few less is place =
      let e : flags_set (take at flags) + (n - count) ≡ n = omega (arith, c.counted) in
      nth_mark f bytes n (at + r) (subst (λ k. IsNthFlag flags k (at + r)) e (among (n - count) (place gs few is (omega (arith, ones_of gs is)))))
