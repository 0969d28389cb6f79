-- How many levels a tree has, and what a search visits of them.
use Rattle.std.proofs.Common.{◌≡◌, ℕ, zero, suc, ◌+◌, ◌-◌, ◌*◌, ◌/◌, ◌^◌, ◌<◌, ◌≤◌, length, sym, ap, ◌∙◌, subst, arith, List, Option, Some}
use Rattle.std.proofs.{Common.inl, Common.inr, Common.pow_mono, lemmas.Bool.cases_lt}
use Rattle.sum_tree.specs.{Row.Row, Visited.RisesBy, Listed.items_in, Listed.IsSoundRoot}

-- a tree of fewer than 2 ^ d elements has fewer than d levels below its root
pub few_levels : {T : Type 0} (root : Option (Row T)) (r : Row T) (xs : List T) (d : ℕ) → items_in root ≡ xs → root ≡ Some r
    → IsSoundRoot root → length xs < 2 ^ d → r.height < d
few_levels root r xs d e is sound few =
    let s = subst IsSoundRoot is sound in
    let n = ap length (sym e ∙ ap items_in is) in
    elim (cases_lt r.height d) [ inl h ↦ h | inr h ↦ absurd (omega (arith, s.wide, pow_mono h)) ]

-- a power of two after the first is even
pub even : (h w : ℕ) → 0 < h → w ≡ 2 ^ h → 2 * (w / 2) ≡ w
even zero w p e = absurd (omega arith)
even (suc h) w p e = omega arith

-- the visits of a search, level by level
pub rises_on : (h k j old mid new : ℕ) → k ≤ h → k ≡ j + 1 → RisesBy (h - k) old mid → RisesBy 1 mid new → RisesBy (h - j) old new
rises_on h k j old mid new l e v w = record {
  exact = λ f. let first = v.exact (omega arith) in let then = w.exact (omega arith) in omega arith;
  most = omega arith;
  kept = omega arith;
}

pub rises_end : (h k old mid new : ℕ) → k ≡ 0 → new ≡ mid → RisesBy (h - k) old mid → RisesBy h old new
rises_end h k old mid new e same v = record { exact = λ f. let first = v.exact (omega arith) in omega arith; most = omega arith; kept = omega arith }
