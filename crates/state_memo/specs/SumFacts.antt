-- Proofs that the facts of a sum ask for; there is nothing to believe here. The flags of sums that are joined.
use Rattle.std.specs.Prelude.{◌≡◌, ℕ, ◌+◌, ◌-◌, ◌≤◌, Bool, true, false, ◌&&◌, ◌==◌, if◌then◌else◌}
use Rattle.std.proofs.Common.{arith, refl, cond}
use Rattle.lane_ascii.specs.Marks.{one_if}
use Rattle.state_memo.specs.declared.sum.Sum.{Sum}

pub no_flag : false ≡ true → 1 ≤ 0
no_flag e = absurd Prim.cc

pub lf_joins : (a b : Sum) → (if a.scalars == 0 then b.lf_first else a.lf_first) ≡ true → 1 ≤ a.marks + b.marks - one_if (a.cr_last && b.lf_first)
lf_joins a b e = by_flags (a.scalars == 0) a.lf_first a.cr_last b.lf_first a.marks b.marks e a.lf_counts a.cr_counts b.lf_counts
  where
    by_flags : (none l c m : Bool) (x y : ℕ) → cond none m l ≡ true → (l ≡ true → 1 ≤ x) → (c ≡ true → 1 ≤ x) → (m ≡ true → 1 ≤ y) → 1 ≤ x + y - one_if (c && m)
    by_flags none l true true x y e p q r = Prim.omega (arith, q refl, r refl)
    by_flags none l false true x y e p q r = Prim.omega (arith, r refl)
    by_flags true l true false x y e p q r = absurd Prim.cc
    by_flags true l false false x y e p q r = absurd Prim.cc
    by_flags false l true false x y e p q r = Prim.omega (arith, q refl)
    by_flags false l false false x y e p q r = Prim.omega (arith, p e)

pub cr_joins : (a b : Sum) → (if b.scalars == 0 then a.cr_last else b.cr_last) ≡ true → 1 ≤ a.marks + b.marks - one_if (a.cr_last && b.lf_first)
cr_joins a b e = by_flags (b.scalars == 0) a.cr_last b.lf_first b.cr_last a.marks b.marks e a.cr_counts b.lf_counts b.cr_counts
  where
    by_flags : (none c m d : Bool) (x y : ℕ) → cond none c d ≡ true → (c ≡ true → 1 ≤ x) → (m ≡ true → 1 ≤ y) → (d ≡ true → 1 ≤ y) → 1 ≤ x + y - one_if (c && m)
    by_flags none true true d x y e p q r = Prim.omega (arith, p refl, q refl)
    by_flags none true false d x y e p q r = Prim.omega (arith, p refl)
    by_flags none false true d x y e p q r = Prim.omega (arith, q refl)
    by_flags true false false d x y e p q r = absurd Prim.cc
    by_flags false false false d x y e p q r = Prim.omega (arith, r e)
