use Rattle.std.proofs.Common.{◌≡◌}
use Rattle.index_loader.proofs.CellLemmas.{row-append, row-within}
use Rattle.index_loader.specs.{FirstPointers.pairs_held, FirstPointers.pairs_in_cells, Ranges.row_code_point}
use Rattle.index_loader.proofs.by_code_point.ByCodePoint.greatest_up_to.Goals as goal

pub returns : goal.returns
returns c =
    let held = pairs_held c.self.inside.firsts c.self.inside.others.items in
    let found : c.greatest_of.result ≡ row_code_point held c.args.code_point =
    rw (c.greatest_of.ensures, c.last_up_to.ensures, c.greatest_among.ensures, c.deref.ensures.value)
    (row-append (pairs_in_cells 0 c.self.inside.firsts) c.self.inside.others.items c.args.code_point) in
    record { bound = row-within held c.args.code_point c.greatest_of.result found; found = rw (← c.self.view_is) found }
