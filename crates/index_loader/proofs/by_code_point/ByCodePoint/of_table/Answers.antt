use Rattle.std.proofs.Common.{◌≡◌, ◌-◌, ℕ, ◌≤◌, ◌<◌, length, refl, arith, sym, ◌∙◌}
use Rattle.std.proofs.{Math.Seq.take-length, lemmas.List.Elements.All-weaker, lemmas.List.Sorted.All-permutation}
use Rattle.index_loader.proofs.CellLemmas.{all-held, first-sorted, others-small, taken-more, taken-none}
use Rattle.index_loader.proofs.{Places.pairs_at-below, Places.pairs_at-rising, Places.pairs_in-last, Places.pairs_in-skipped, Prelude.pairs_in}
use Rattle.index_loader.proofs.by_code_point.ByCodePoint.of_table.Goals as goal

pub loop-pointer-init : goal.loop-pointer-init
loop-pointer-init c = record {
  within = omega (arith, c.len-pointer.ensures);
  taken = rw (c.len-pointer.ensures, take-length, c.new-others.ensures.items)
      (taken-none (pairs_in c.args.table.now) c.in_ok-firsts.firsts (pairs_at-rising 0 c.args.table.now) c.in_ok-firsts.ensures);
}

pub loop-pointer-preserved-in-Continue-branch-2 : goal.loop-pointer-preserved-in-Continue-branch-2
loop-pointer-preserved-in-Continue-branch-2 c = record {
  within = omega (arith, c.loop-pointer.invariant.within);
  taken =
      taken-more _ _ _ _ _ _ _ _
      (pairs_in-last c.args.table.now c.loop-pointer.pointer (c.loop-pointer.pointer - 1) c.in-Some.code_point
      (omega (arith, c.loop-pointer-test.true)) (omega (arith, c.loop-pointer-test.true, c.loop-pointer.invariant.within))
      (sym c.code_point.ensures ∙ c.in-Some.is))
      c.loop-pointer.invariant.taken c.in_ok-take.ensures;
}

pub loop-pointer-preserved : goal.loop-pointer-preserved
loop-pointer-preserved c = record {
  within = omega (arith, c.loop-pointer.invariant.within);
  taken =
      rw (← pairs_in-skipped c.args.table.now c.loop-pointer.pointer (c.loop-pointer.pointer - 1) (omega (arith, c.loop-pointer-test.true))
      (omega (arith, c.loop-pointer-test.true, c.loop-pointer.invariant.within)) (sym c.code_point.ensures ∙ c.in_default.is))
      c.loop-pointer.invariant.taken;
}

pub in_order-others-requires : goal.in_order-others-requires
in_order-others-requires c =
    others-small _ _ _ _ 189000 c.loop-pointer.invariant.taken
    (All-weaker (λ (pair : ℕ × ℕ). pair.0 < 189001) (λ pair. pair.0 ≤ 189000) (λ pair lt. omega arith) _
    (pairs_at-below 0 189001 c.args.table.now (omega (arith, c.requires))))

pub invariant_of-result : goal.invariant_of-result
invariant_of-result c = (c.in_order-others.ensures.order, first-sorted _ _ _ c.loop-pointer.invariant.taken.first c.in_order-others.ensures.same)

pub returns-clause-same : goal.returns-clause-same
returns-clause-same c =
    let done : c.loop-pointer.pointer ≡ 0 = omega (arith, c.loop-pointer-test.false) in
    all-held _ _ _ _ _ c.loop-pointer.invariant.taken (rw done refl) c.in_order-others.ensures.same

pub returns-clause-small : goal.returns-clause-small
returns-clause-small c =
    let done : c.loop-pointer.pointer ≡ 0 = omega (arith, c.loop-pointer-test.false) in
    All-permutation (λ (pair : ℕ × ℕ). pair.0 < length c.args.table.now) (pairs_in c.args.table.now) _
    (all-held _ _ _ _ _ c.loop-pointer.invariant.taken (rw done refl) c.in_order-others.ensures.same)
    (pairs_at-below 0 (length c.args.table.now) c.args.table.now (omega arith))
