use Rattle.std.proofs.Common.{◌≡◌, ◌≤◌, ◌-◌, ap, sym, ◌∙◌, ℕ, List, drop, slice_get, Some, arith}
use Rattle.state_memo.specs.declared.run.Run.{Run}
use Rattle.piece_rope.proofs.{Prelude.Place, Prelude.errors_in, Prelude.items_of_run, Prelude.items_of_runs, Prelude.errors_at, Erring.run-passed-at}
use Rattle.piece_rope.proofs.error_cursor.go_along.Goals as goal

pub runs-preserved : goal.runs-preserved
runs-preserved c =
    let cut = c.in-Some.ensures.cases.0 in
    let run = c.in-Some.run'.now in
    let left = c.runs.left - c.errors-count.result in
    let first : slice_get c.runs.rest.now 0 ≡ Some run = ap (λ (rs : List Run). slice_get rs 0) cut in
    let later : drop 1 c.runs.rest.now ≡ c.in-Some.later.now = ap (λ (rs : List Run). drop 1 rs) cut in
    let few : errors_in (items_of_run run) ≤ c.runs.left = omega (arith, c.if-left-count.false, c.errors-count.ensures) in
    ap (λ (ps : List Place). drop left ps) c.past_others.ensures.same
    ∙ ap (λ (rs : List Run). drop left (errors_at c.args.base c.end_of-behind.result (items_of_runs rs))) (sym later)
    ∙ run-passed-at c.args.base c.runs.begin c.runs.left c.runs.rest.now run first c.end_of-behind.result left
    (ap (λ (n : ℕ). c.runs.left - n) c.errors-count.ensures) few c.end_of-behind.ensures
    ∙ c.runs.invariant
