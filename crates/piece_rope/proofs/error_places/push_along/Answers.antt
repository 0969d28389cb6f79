use Rattle.std.proofs.Common.{◌≡◌, ◌≤◌, refl, sym, ap, ◌∙◌, ℕ, List, ◌+◌, ◌-◌, ◌++◌, take, drop, length, length-append, length-drop, arith, slice_get, Some}
use Rattle.state_memo.specs.declared.run.Run.{Run}
use Rattle.piece_rope.proofs.{Prelude.errors_at, Prelude.items_of_run, Prelude.items_of_runs, Erring.errors_at-length, Erring.first-run, Reading.read-step}
use Rattle.piece_rope.proofs.error_places.push_along.Goals as goal

pub runs-preserved : goal.runs-preserved
runs-preserved c =
    let base = c.args.base in
    let cut = c.in-Some.ensures.cases.0 in
    let run = c.in-Some.run'.now in
    let rest = c.runs.rest.now in
    let first : slice_get rest 0 ≡ Some run = ap (λ (rs : List Run). slice_get rs 0) cut in
    let later : drop 1 rest ≡ c.in-Some.later.now = ap (λ (rs : List Run). drop 1 rs) cut in
    let here = errors_at base c.runs.begin (items_of_run run) in
    let more = errors_at base c.past_others.result.1 (items_of_runs c.past_others.result.0.now) in
    let whole = errors_at base c.runs.begin (items_of_runs rest) in
    let left = c.args.most - c.runs.count in
    let taken = c.push_run-taken.result in
    let split : whole ≡ here ++ more = cc (first-run base c.runs.begin rest run first, later, c.past_others.ensures.same, c.end_of-behind.ensures) in
    let within : c.runs.skip ≤ length here = omega (arith, errors_at-length base c.runs.begin (items_of_run run), c.runs.invariant.there run first) in
    let still : left - taken ≡ c.args.most - (c.runs.count + taken) = omega arith in
    let step = read-step here more c.runs.skip left c.runs.places.items split within refl c.push_run-taken.ensures.count c.push_run-taken.ensures.places in
    let all_long = length-drop c.runs.skip whole in
    let here_long = length-drop c.runs.skip here in
    let whole_long = ap length split ∙ length-append here more in
    record {
      high = omega (arith, c.runs-test.true, c.push_run-taken.ensures.count);
      places = ap (λ (n : ℕ). c.push_run-taken.new.places.items ++ take n more) (sym still) ∙ step ∙ c.runs.invariant.places;
      size = omega (arith, c.runs-test.true, c.push_run-taken.ensures.count, c.runs.invariant.size, all_long, here_long, whole_long, within);
      there = λ r at. rw at at c.past_others.ensures.stop;
      len = omega (arith, c.push_run-taken.ensures.len, c.runs.invariant.len);
      capacity = c.push_run-taken.ensures.capacity ∙ c.runs.invariant.capacity;
    }
