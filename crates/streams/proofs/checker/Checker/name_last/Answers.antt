use Rattle.std.proofs.Common.{sym, ap, ◌∙◌, ◌+◌, ◌^◌, ◌<◌, ◌≤◌, length, fold, arith}
use Rattle.std.proofs.lemmas.Bool.Decides.{nat_tests}
use Rattle.streams.specs.Finding.{Places, with_ended}
use Rattle.streams.proofs.{Checked.names-full, Checked.names-none, Checked.names-placed, Lifting.OnOk-weaker}
use Rattle.streams.proofs.checker.Checker.name_last.Goals as goal

pub returns-then-errors-eq0 : goal.returns-then-errors-eq0
returns-then-errors-eq0 c = names-none 0 c.args.last.now c.args.self.now (sym c.requires.errors ∙ c.if-errors-eq0.true)

pub returns-then-is_full : goal.returns-then-is_full
returns-then-is_full c =
    let full : c.self.inside.placing.most ≤ length c.self.inside.placing.found = grind (arith, nat_tests, sym c.is_full.ensures ∙ c.if-is_full.true) in
    rw (← c.self.view_is) (names-full 0 c.args.last.now _ full)

pub returns : goal.returns
returns c =
    let room = rw (← c.self.view_is) at c.requires.room in
    let bound : c.self.inside.bytes + 0 < 2 ^ 64 = omega (arith, room) in
    rw (← c.self.view_is)
    (OnOk-weaker c.take_last.result
    (λ is. names-placed 0 c.args.last.now _ c.take_last.new.self bound (is ∙ ap (λ (p : Places). fold (with_ended 0) p c.args.last.now) c.begin.ensures))
    c.take_last.ensures)
