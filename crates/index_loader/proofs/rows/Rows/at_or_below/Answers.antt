use Rattle.std.proofs.Common.{arith, leb-false, sym}
use Rattle.index_loader.proofs.RowLemmas.{row-some}
use Rattle.index_loader.proofs.rows.Rows.at_or_below.Goals as goal

pub returns-then-at-eq0-clause-row : goal.returns-then-at-eq0-clause-row
returns-then-at-eq0-clause-row c =
    let place = rw (c.deref.ensures.value, c.if-at-eq0.true) at c.count_up_to-at.ensures.place in
    rw (← c.self.view_is) (λ k d lt. leb-false _ _ (place.1 k d (omega arith) lt))

pub returns-else-at-eq0-clause-row : goal.returns-else-at-eq0-clause-row
returns-else-at-eq0-clause-row c =
    let place = rw c.deref.ensures.value at c.count_up_to-at.ensures.place in
    let bound = rw c.deref.ensures.value at c.count_up_to-at.ensures.bound in
    rw (← c.self.view_is) (row-some c.self.inside.rows.items c.self.invariant.0 c.args.pointer c.count_up_to-at.result place
    (omega arith) bound c.index.result.now (sym c.index.ensures))
