use Rattle.piece_rope.proofs.Prelude.{◌≡◌, ap, sym, ◌∙◌, List, length, slice_get, arith, Some, Run, errors_in, items_of_run, items_of_runs, errors_at}
use Rattle.piece_rope.proofs.Prelude.{begin_behind, fewer}
use Rattle.piece_rope.proofs.Erring.{other-passed-at}
use Rattle.piece_rope.proofs.error_cursor.past_other_runs.Goals as goal

pub runs-preserved : goal.runs-preserved
runs-preserved c =
    let base = c.args.base in
    let run = c.in-Some.run' in
    let begin = begin_behind base c.args.from c.runs.last in
    let behind = begin_behind base c.args.from (Some run) in
    let first : slice_get c.runs.runs 0 ≡ Some run = sym c.in-Some.ensures in
    let none : errors_in (items_of_run run) ≡ 0 = omega (arith, c.if-errors-gt0.false, c.errors.ensures) in (
      ap (λ (rs : List Run). errors_at base behind (items_of_runs rs)) c.advance.ensures
          ∙ other-passed-at base begin c.runs.runs run first none
          ∙ c.runs.invariant.0,
      omega (arith, ap length c.advance.ensures, fewer c.runs.runs run first, c.runs.invariant.1),
    )
