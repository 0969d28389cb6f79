use Rattle.position_map.proofs.Words.{ℕ, ◌+◌, ◌-◌, ap, arith, refl, chars}
use Rattle.position_map.proofs.Reaching.{last-begun, last-room, line-there, marks-room, no-last-line, reached, units-room}
use Rattle.position_map.proofs.reach.place_behind.Goals as goal

pub overflow_add-line : goal.overflow_add-line
overflow_add-line c = omega (arith, marks-room c.args.unit _ _ c.args.stretch c.requires.stretch, c.end-end.ensures.scalars)

pub overflow_add-units : goal.overflow_add-units
overflow_add-units c = omega (arith, units-room c.args.unit _ _ c.args.stretch c.requires.stretch, c.end-end.ensures.units)

pub returns-then-line-known-clause-at : goal.returns-then-line-known-clause-at
returns-then-line-known-clause-at c =
    reached c.args.unit _ _ c.args.stretch c.requires.stretch c.requires.error _ refl (ap (λ (n : ℕ). c.args.stretch.units + n) c.units_in.ensures)
    (ap (λ (n : ℕ). c.args.stretch.marks + n) c.count_marks-marks.ensures) refl (rw c.if-line-known.true c.requires.known)

pub unreachable-requires : goal.unreachable-requires
unreachable-requires c =
    line-there c.args.unit _ _ c.args.stretch c.requires.stretch (omega (arith, c.in-None.ensures.start, c.count_marks-marks.ensures))

pub returns-then-marks-eq0-2-clause-at : goal.returns-then-marks-eq0-2-clause-at
returns-then-marks-eq0-2-clause-at c =
    rw c.begun_at.ensures
    (reached c.args.unit _ _ c.args.stretch c.requires.stretch c.requires.error _ refl (ap (λ (n : ℕ). c.args.stretch.units + n) c.units_in.ensures)
    (ap (λ (n : ℕ). c.args.stretch.marks + n) c.count_marks-marks.ensures) refl (record { scalars = c.in-Some.start.scalars; is = c.in-Some.ensures.start }))

pub overflow_sub-units : goal.overflow_sub-units
overflow_sub-units c =
    let room = last-room c.args.unit _ _ c.args.stretch c.requires.stretch c.requires.error (chars c.in-Some-last_line.text.now) c.in-Some-last_line.ensures in
    omega (arith, room, c.units_in-in-Some-last_line.ensures, c.units_in.ensures)

pub unreachable-requires-in-None-last_line : goal.unreachable-requires-in-None-last_line
unreachable-requires-in-None-last_line c =
    no-last-line c.args.stretch.after_cr (chars c.args.stretch.part.now) c.count_marks-marks.result c.count_marks-marks.ensures
    (omega (arith, c.if-marks-eq0-2.false)) c.in-None-last_line.ensures

pub returns-clause-at : goal.returns-clause-at
returns-clause-at c =
    let start = c.args.stretch.units + c.units_in.result - c.units_in-in-Some-last_line.result in
    rw c.begun_at-in-Some-last_line.ensures
    (reached c.args.unit _ _ c.args.stretch c.requires.stretch c.requires.error _ refl (ap (λ (n : ℕ). c.args.stretch.units + n) c.units_in.ensures)
    (ap (λ (n : ℕ). c.args.stretch.marks + n) c.count_marks-marks.ensures) refl
    (last-begun c.args.unit _ _ c.args.stretch c.requires.stretch c.requires.error (chars c.in-Some-last_line.text.now)
    (c.args.stretch.marks + c.count_marks-marks.result) start c.in-Some-last_line.ensures
    (ap (λ (n : ℕ). c.args.stretch.marks + n) c.count_marks-marks.ensures) (omega (arith, c.units_in.ensures, c.units_in-in-Some-last_line.ensures))))
