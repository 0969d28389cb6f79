use Rattle.std.proofs.Common.{w64, arith, ◌<◌, length, sym, to_z-of_z}
use Rattle.std.proofs.lemmas.Bool.{eqb-true, eqb-false}
use Rattle.streams.specs.Finding.{Places}
use Rattle.streams.proofs.Errors.{placed-none, placed-plain}
use Rattle.streams.proofs.placing.PlacingSink.plain.Goals as goal

pub returns-then-is_empty-clause-ok : goal.returns-then-is_empty-clause-ok
returns-then-is_empty-clause-ok g c =
    placed-none c.args._stride c.args.end c.args._after c.args.text.now c.args.self.now (eqb-true _ _ (sym c.if-is_empty.ensures))

pub returns-clause-ok : goal.returns-clause-ok
returns-clause-ok g c =
    let some : 0 < length c.args.text.now = grind (arith, eqb-false _ _ (sym c.if-is_empty.ensures)) in
    let p : Places = record {
      base = c.self.inside.base;
      from = c.self.inside.from;
      counts = c.self.inside.counts;
      most = c.self.inside.most;
      found = c.self.inside.found.items;
    } in
    rw (c.saturating_add_signed-self-inside.ensures, to_z-of_z {w = w64} c.ranges.end, ← c.self.view_is)
    (placed-plain c.args._stride c.args.end c.args._after c.args.text.now p c.in_ok-self-inside.field-0 c.utf8.text some c.in_ok-self-inside.ensures)
