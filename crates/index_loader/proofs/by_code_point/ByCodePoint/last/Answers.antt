use Rattle.std.proofs.Common.{sym, ◌∙◌}
use Rattle.index_loader.proofs.CellLemmas.{last-others, last-in_cell}
use Rattle.index_loader.proofs.by_code_point.ByCodePoint.last.Goals as goal

pub returns-in-Some : goal.returns-in-Some
returns-in-Some c =
    rw (← c.self.view_is)
    (last-others c.self.inside.firsts c.self.inside.others.items c.self.invariant.1 c.args.code_point c.in-Some.pointer
    (rw (c.get.ensures.value, c.deref.ensures.value) at (sym c.in-Some.is ∙ c.last_among.ensures)))

pub returns-in-None : goal.returns-in-None
returns-in-None c =
    rw (← c.self.view_is, c.get-in-None-2.ensures.value, c.get-in-None.ensures.value)
    (last-in_cell c.self.inside.firsts c.self.inside.others.items c.args.code_point
    (rw (c.get.ensures.value, c.deref.ensures.value) at (sym c.in-None.is ∙ c.last_among.ensures)))
