use Rattle.piece_rope.proofs.Prelude.{◌≡◌, ◌+◌, ◌<◌, ◌∷◌, [], List, ap, arith, rules, subst, sym, ◌∙◌, Place, errors_at, errors_in, items_of_run, items_of_runs}
use Rattle.piece_rope.proofs.Prelude.{MatchOption, Run}
use Rattle.piece_rope.proofs.Erring.{next-found, no-more, run-passed-at}
use Rattle.piece_rope.proofs.error_cursor.ErrorCursor.next.Goals as goal

pub returns-in_default : goal.returns-in_default
returns-in_default c =
    let to = c.go_on_to-from.result in
    sym c.self.view_is ∙ sym c.go_on_to-from.ensures.same ∙ no-more c.self.inside.base to.0 to.1 c.go_on_to-from.new.runs (sym c.in_default.ensures)

pub returns-then-passed-errors : goal.returns-then-passed-errors
returns-then-passed-errors c =
    let to = c.go_on_to-from.result in
    let run = c.in-Some.run' in
    let within : to.1 < errors_in (items_of_run run) = search rules in
    next-found c.self.inside.base to.0 to.1 c.go_on_to-from.new.runs run (sym c.in-Some.ensures) c.error_in_run-place.result c.args.self.now within
    c.error_in_run-place.ensures (c.go_on_to-from.ensures.same ∙ c.self.view_is)

pub returns : goal.returns
returns c =
    let base = c.self.inside.base in
    let to = c.go_on_to-from.result in
    let rs = c.go_on_to-from.new.runs in
    let run = c.in-Some.run' in
    let begin = c.end_of-self-inside.result in
    let left = c.args.self.now in
    let within : to.1 < errors_in (items_of_run run) = search rules in
    let passed = run-passed-at base to.0 (to.1 + 1) rs run (sym c.in-Some.ensures) begin 0
    (omega (arith, within, c.if-passed-errors.false, c.errors.ensures)) (omega (arith, c.if-passed-errors.false, c.errors.ensures))
    c.end_of-self-inside.ensures in
    let same = sym passed ∙ ap (λ (xs : List Run). errors_at base begin (items_of_runs xs)) (sym c.advance.ensures) in
    subst (λ (behind : List Place). MatchOption c.error_in_run-place.result (left ≡ []) (λ place. left ≡ place ∷ behind)) same
    (next-found base to.0 to.1 rs run (sym c.in-Some.ensures) c.error_in_run-place.result left within
    c.error_in_run-place.ensures (c.go_on_to-from.ensures.same ∙ c.self.view_is))
