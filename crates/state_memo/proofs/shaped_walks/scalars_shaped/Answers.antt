use Rattle.std.proofs.Common.{◌≡◌, arith, ap, rules, ℤ, to_z, of_z, w64}
use Rattle.state_memo.proofs.Prelude.{scalars_before, items_of_runs}
use Rattle.state_memo.proofs.Walks.{before-next, before-few, items-first, items-none}
use Rattle.state_memo.proofs.shaped_walks.scalars_shaped.Goals as goal

pub overflow_add-count : goal.overflow_add-count
overflow_add-count c =
    let limit = to_z w64 (of_z w64 c.args.limit) in
    let next = before-next c.in-Some.run' _ _ (items-first c.runs.runs c.in-Some.run' c.in-Some.ensures) limit in
    omega (arith, next, c.runs.invariant, c.scalars_before-count.ensures, before-few limit (items_of_runs c.args.shaped.now), c.requires)

pub runs-preserved : goal.runs-preserved
runs-preserved c =
    let next = before-next c.in-Some.run' _ _ (items-first c.runs.runs c.in-Some.run' c.in-Some.ensures) (to_z w64 (of_z w64 c.args.limit)) in
    rw c.advance.ensures (omega (arith, next, c.runs.invariant, c.scalars_before-count.ensures))

pub returns : goal.returns
returns c =
    let limit = to_z w64 (of_z w64 c.args.limit) in
    let none = ap (scalars_before limit) (items-none c.runs.runs c.in_default.ensures) in
    let limit_is : limit ≡ c.args.limit = search rules in
    let same = ap (λ (z : ℤ). scalars_before z (items_of_runs c.args.shaped.now)) limit_is in
    omega (arith, none, same, c.runs.invariant)
