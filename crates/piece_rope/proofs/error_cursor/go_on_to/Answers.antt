use Rattle.piece_rope.proofs.Prelude.{◌-◌, ap, sym, ◌∙◌, ℕ, List, drop, arith, Run, Place, items_of_runs, errors_at}
use Rattle.piece_rope.proofs.Erring.{run-passed-at}
use Rattle.piece_rope.proofs.error_cursor.go_on_to.Goals as goal

pub runs-preserved : goal.runs-preserved
runs-preserved c =
    let behind = c.end_of-behind.result in
    let left = c.runs.left - c.errors-count.result in
    ap (λ (ps : List Place). drop left ps) c.past_other_runs-begin-in-Some.ensures.same
    ∙ ap (λ (rs : List Run). drop left (errors_at c.args.base behind (items_of_runs rs))) c.advance.ensures
    ∙ run-passed-at c.args.base c.runs.begin c.runs.left c.runs.runs c.in-Some.run' (sym c.in-Some.ensures) behind left
    (ap (λ (n : ℕ). c.runs.left - n) c.errors-count.ensures)
    (omega (arith, c.if-left-count.false, c.errors-count.ensures)) c.end_of-behind.ensures
    ∙ c.runs.invariant
