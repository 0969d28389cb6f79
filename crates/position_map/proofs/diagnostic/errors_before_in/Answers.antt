use Rattle.position_map.proofs.Words.{ℕ, arith, ap, ◌∙◌, List, Run, Ended, all_scalars, items_of_runs, error_scalars, Sum, count_by-le-length}
use Rattle.std.proofs.Common.{sym, nat_lt}
use Rattle.lemmas.proofs.Lists.{none-first}
use Rattle.position_map.proofs.ErrorRuns.{below, below-few, below-first, error_scalars-length, scalars-first}
use Rattle.position_map.proofs.diagnostic.errors_before_in.Goals as goal

pub returns-then-sum-eq0 : goal.returns-then-sum-eq0
returns-then-sum-eq0 c =
    let scalars = error_scalars c.args.from c.args.here.now.items in
    let few = count_by-le-length (λ (s : ℕ). nat_lt s c.args.n) scalars in
    omega (arith, few, error_scalars-length c.args.from c.args.here.now.items, c.args.here.now.summed.errors, ap (λ (s : Sum). s.errors) c.sum.ensures)

pub overflow_add-errors : goal.overflow_add-errors
overflow_add-errors c =
    let here = c.runs-runs.ensures ∙ c.items.ensures in
    let all = ap (λ (es : List Ended). all_scalars es) here in
    let counted = ap (λ (es : List Ended). below c.args.n (error_scalars c.args.from es)) here in
    let first = below-first c.runs.runs c.in-Some.run' (sym c.in-Some.ensures) c.runs.scalars c.args.n in
    let few = below-few c.args.n c.args.from c.runs-runs.result (c.law_items.ensures.sparse c.runs-runs.result) in
    omega (arith, first, few, all, counted)

pub overflow_add-scalars : goal.overflow_add-scalars
overflow_add-scalars c = omega (arith, scalars-first c.runs.runs c.in-Some.run' (sym c.in-Some.ensures))

pub runs-preserved : goal.runs-preserved
runs-preserved c =
    let some = sym c.in-Some.ensures in
    let first = below-first c.runs.runs c.in-Some.run' some c.runs.scalars c.args.n in
    rw (c.advance.ensures, c.scalars-scalars.ensures) (omega (arith, first), omega (arith, scalars-first c.runs.runs c.in-Some.run' some))

pub returns : goal.returns
returns c =
    let none = ap (λ (rs : List Run). below c.args.n (error_scalars c.runs.scalars (items_of_runs rs))) (none-first c.runs.runs (sym c.in_default.ensures)) in
    omega (arith, c.runs.invariant.0, none)
