use Rattle.std.proofs.Common.{ℕ, ◌+◌, ◌-◌, ap, arith, ◌∙◌, ◌≡◌, [], append-nil, rules, sym, take, drop}
use Rattle.position_map.proofs.{Words.ErrorAt, ErrorPlaces.one-more, ErrorPlaces.run-holds, ErrorPlaces.run-passed, ErrorRuns.run-few, ErrorRuns.scalars-first}
use Rattle.std.proofs.lemmas.List.{drop_all, take_all}
use Rattle.lemmas.proofs.Lists.{none-first}
use Rattle.position_map.proofs.diagnostic.push_errors.Goals as goal

pub overflow_add-number : goal.overflow_add-number
overflow_add-number c = omega (arith, scalars-first c.runs.runs c.in-Some.run' (sym c.in-Some.ensures))

pub runs-preserved-then-count-passed : goal.runs-preserved-then-count-passed
runs-preserved-then-count-passed c =
    let some = sym c.in-Some.ensures in
    let passed = run-passed c.args.base c.runs.begin c.runs.number c.runs.passed c.runs.runs c.in-Some.run' some c.saturating_add_signed-begin.result
    (c.runs.number + c.scalars-number.result) (c.runs.passed - c.errors-count.result) (omega (arith, c.if-count-passed.true, c.errors-count.ensures))
    (ap (λ (n : ℕ). c.runs.passed - n) c.errors-count.ensures) (search rules) (ap (λ (n : ℕ). c.runs.number + n) c.scalars-number.ensures) in
    rw c.advance.ensures (record {
      listed = rw passed c.runs.invariant.listed;
      room = omega (arith, scalars-first c.runs.runs c.in-Some.run' some);
    })

pub overflow_add-number-else-count-passed : goal.overflow_add-number-else-count-passed
overflow_add-number-else-count-passed c =
    omega (arith, scalars-first c.runs.runs c.in-Some.run' (sym c.in-Some.ensures), run-few c.in-Some.run')

pub runs-preserved : goal.runs-preserved
runs-preserved c =
    let holds = run-holds c.args.base c.runs.begin c.runs.number c.runs.passed c.runs.runs c.in-Some.run'
    (sym c.in-Some.ensures) c.place_in-place.result c.item-before.result c.item-item.result
    (omega (arith, c.if-count-passed.false, c.errors-count.ensures)) (rw c.saturating_sub.ensures at c.item-before.ensures) c.item-item.ensures
    c.place_in-place.ensures.first c.place_in-place.ensures.later c.place_in-place.ensures.to in
    record {
      listed = one-more c.runs.errors.items c.push.new.self.items _ _ _ c.runs.left c.in_ok-push.ensures.items holds
          (omega (arith, c.if-left-eq0.false)) ∙ c.runs.invariant.listed;
      room = c.runs.invariant.room;
    }

pub returns : goal.returns
returns c =
    let dropped : drop {A = ErrorAt} c.runs.passed [] ≡ [] = drop_all c.runs.passed [] (omega arith) in
    let taken : take {A = ErrorAt} c.runs.left [] ≡ [] = take_all c.runs.left [] (omega arith) in
    rw (none-first c.runs.runs (sym c.in_default.ensures), dropped, taken, append-nil) at c.runs.invariant.listed
