use Rattle.std.proofs.Common.{◌≡◌, ap, ◌-◌, ◌+◌, min, drop, length, length-drop, arith}
use Rattle.piece_rope.proofs.{Prelude.take_min, Prelude.errors_of, Erring.errors-seen}
use Rattle.piece_rope.proofs.doc.Doc.errors.Goals as goal

pub errors_between-requires-clause-within : goal.errors_between-requires-clause-within
errors_between-requires-clause-within c =
    let all = errors-seen c.self.view_is c.self.invariant.kept c.bom_len-bom.ensures in
    omega (arith, ap length all, c.lengths-total.ensures.errors, c.if-from-total.false, c.min.ensures)

pub returns-clause-ok : goal.returns-clause-ok
returns-clause-ok c =
    let rest = drop c.args.from (errors_of c.args.self.now) in
    let k : c.args.from + c.min.result - c.args.from ≡ min c.args.max (length rest) =
    omega (arith, c.min.ensures, c.lengths-total.ensures.errors, length-drop c.args.from (errors_of c.args.self.now)) in
    cc (c.in_ok-places.ensures, errors-seen c.self.view_is c.self.invariant.kept c.bom_len-bom.ensures, k, take_min c.args.max rest)
