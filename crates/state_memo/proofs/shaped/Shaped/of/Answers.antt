use Rattle.std.proofs.Common.{rules, ◌≡◌, ap, ◌∙◌, ℕ, suc, ◌+◌, ◌≤◌, List, arith, take, get_or, to_z, of_z, w16, length}
use Rattle.std.proofs.Math.Seq.{take-suc}
use Rattle.state_memo.proofs.{Prelude.take_all, Shapes.next-shaped, Walks.no_run}
use Rattle.state_memo.specs.{Shaped.shaped_runs, Shaped.shapes_of, declared.shape.Shape.Shape}
use Rattle.state_memo.proofs.shaped.Shaped.of.Goals as goal

pub runs-preserved : goal.runs-preserved
runs-preserved c =
    let runs = c.args.runs.now in
    let at = c.runs.run-index in
    let run = get_or runs at no_run in
    let last : to_z w16 (of_z w16 run.last) ≡ run.last = search rules in
    let more = c.number_of.ensures.more in
    let named = c.in_ok-number.ensures.named in
    let within : suc at ≤ length runs = search rules in
    let next : at + 1 ≡ suc at = omega arith in
    let all = ap (λ (n : ℕ). take n runs) next ∙ take-suc runs at no_run within in (
      next-shaped c.runs.invariant.0 more.0 more.1 named.0 named.1 c.in_ok-shape.ensures c.push_reserved.ensures.items last all,
      search rules,
      search rules,
    )

pub returns : goal.returns
returns c =
    let same : c.in_ok-shapes.shapes.items ≡ c.runs.found.items = search rules in
    let past : length c.args.runs.now ≤ c.runs.run-index = search rules in
    ap (λ (ss : List Shape). shaped_runs (to_z w16 (of_z w16 c.in_ok-from.field-0.now.last)) (shapes_of ss c.runs.numbers.items)) same
    ∙ c.runs.invariant.0.same ∙ take_all c.runs.run-index c.args.runs.now past
