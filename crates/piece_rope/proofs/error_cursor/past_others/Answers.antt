use Rattle.piece_rope.proofs.Prelude.{◌≡◌, ◌≤◌, ap, sym, ◌∙◌, List, drop, length, slice_get, arith, option_copied, Some, Run, errors_in, items_of_run}
use Rattle.piece_rope.proofs.Prelude.{items_of_runs, errors_at, begin_behind, fewer}
use Rattle.piece_rope.proofs.Erring.{other-passed-at}
use Rattle.piece_rope.proofs.error_cursor.past_others.Goals as goal

pub runs-preserved : goal.runs-preserved
runs-preserved c =
    let cut = c.in-Some.ensures.cases.0 in
    let begin = begin_behind c.args.base c.args.from (option_copied c.runs.last) in
    let behind = begin_behind c.args.base c.args.from (Some c.in-Some.run'.now) in
    let first : slice_get c.runs.rest.now 0 ≡ Some c.in-Some.run'.now = ap (λ (rs : List Run). slice_get rs 0) cut in
    let later : drop 1 c.runs.rest.now ≡ c.in-Some.later.now = ap (λ (rs : List Run). drop 1 rs) cut in
    let none : errors_in (items_of_run c.in-Some.run'.now) ≡ 0 = omega (arith, c.if-errors-gt0.false, c.errors.ensures) in
    let few : length c.in-Some.later.now ≤ length c.args.runs.now =
    omega (arith, ap length later, fewer c.runs.rest.now c.in-Some.run'.now first, c.runs.invariant.1) in (
      ap (λ (rs : List Run). errors_at c.args.base behind (items_of_runs rs)) (sym later)
          ∙ other-passed-at c.args.base begin c.runs.rest.now c.in-Some.run'.now first none
          ∙ c.runs.invariant.0,
      few,
    )
