use Rattle.std.proofs.Common.{◌<◌, subst, rules, length, List}
use Rattle.state_memo.proofs.{Prelude.Run, Shapes.some-shaped}
use Rattle.state_memo.proofs.shaped_runs.ShapedRuns.is_done.Goals as goal

pub returns-clause-some : goal.returns-clause-some
returns-clause-some c = λ e.
    let r = c.self.inside in
    let some : 0 < length r.numbers.now = search rules in
    subst (λ (rs : List Run). 0 < length rs) c.self.view_is (some-shaped r.end r.shapes.now r.numbers.now some)
