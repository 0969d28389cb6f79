use Rattle.std.proofs.Common.{◌≡◌, ◌∙◌, ap, rules, pos}
use Rattle.state_memo.proofs.Prelude.{Utf8, errors_in}
use Rattle.state_memo.proofs.CodePoints.{plain-no-errors}
use Rattle.state_memo.proofs.gathering.own_outcome.Goals as goal

pub summed-requires-clause-done : goal.summed-requires-clause-done
summed-requires-clause-done c =
    let same : c.as_slice.result.now ≡ c.args.bytes.now.value.items = search rules in
    rw (same, c.in_ok-items.ensures, c.in_ok-text.ensures) c.requires.done

pub summed-requires-clause-none : goal.summed-requires-clause-none
summed-requires-clause-none c = λ _. ap errors_in c.in_ok-items.ensures ∙ plain-no-errors Utf8 (pos 0) c.args.output c.in_ok-text.text

pub returns : goal.returns
returns c =
    let same : c.as_slice.result.now ≡ c.args.bytes.now.value.items = search rules in
    rw (same, c.in_ok-items.ensures, c.in_ok-text.ensures) at c.summed.ensures
