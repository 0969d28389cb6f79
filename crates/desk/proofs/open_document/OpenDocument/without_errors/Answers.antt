use Rattle.desk.proofs.{Prelude.sym, Prelude.arith, Prelude.entry_of, Text.ends_before, Text.ends_past, Text.is_malformed}
use Rattle.desk.proofs.open_document.OpenDocument.without_errors.Goals as goal

pub returns-then-from-to : goal.returns-then-from-to
returns-then-from-to c = ends_before c.args.self.now.document.indexes (entry_of c.args.self.now) c.args.from c.args.to (omega (arith, c.if-from-to.true))

pub returns-then-to-lengths : goal.returns-then-to-lengths
returns-then-to-lengths c =
    ends_past c.args.self.now.document.indexes (entry_of c.args.self.now) c.args.from c.args.to (omega (arith, c.if-to-lengths.true, c.lengths.ensures.scalars))

pub returns-in-Some : goal.returns-in-Some
returns-in-Some c =
    is_malformed c.args.self.now.document.indexes (entry_of c.args.self.now) c.args.from c.args.to c.in-Some.place
    (omega (arith, c.if-from-to.false)) (omega (arith, c.if-to-lengths.false, c.lengths.ensures.scalars)) (sym c.in-Some.ensures)
