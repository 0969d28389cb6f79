use Rattle.std.proofs.{Common.◌<◌, Common.◌≤◌, Common.ℕ, Common.arith, lemmas.List.Elements.All-weaker}
use Rattle.index_loader.proofs.CellLemmas.{first-none}
use Rattle.index_loader.proofs.by_code_point.ByCodePoint.of_rows.Goals as goal

pub invariant_of-result : goal.invariant_of-result
invariant_of-result c = (c.in_order-others.ensures.order, first-none c.in_ok-firsts.firsts c.in_order-others.result.items c.in_ok-firsts.ensures)

pub returns-clause-small : goal.returns-clause-small
returns-clause-small c =
    rw c.in_ok-firsts.ensures
    (All-weaker (λ (pair : ℕ × ℕ). pair.0 ≤ 189000) (λ pair. pair.0 < 189001) (λ pair le. omega arith) _ c.in_order-others.ensures.order.small)
