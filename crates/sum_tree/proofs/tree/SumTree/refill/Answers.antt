use Rattle.std.proofs.Common.{length, sym, ap, ◌∙◌, arith}
use Rattle.sum_tree.{specs.Listed.items_in, proofs.Refilling.can_last}
use Rattle.sum_tree.proofs.tree.SumTree.refill.Goals as goal

pub refilled-requires-clause-can : goal.refilled-requires-clause-can
refilled-requires-clause-can g c =
    let seen = ap (λ r. r.items) c.self.view_is in
    can_last g.met.S.Summary.laws g.T.Summed.sum_of c.args.self.now.items _ c.args.items.now.items c.args.from c.args.to
    (sym seen ∙ ap items_in (sym c.take.ensures.value)) c.requires.within c.requires.fit (omega (arith, c.self.invariant.summable.short, ap length seen))
