use Rattle.std.proofs.Common.{◌≡◌, ap, arith, subst, rules, List, Option, Some}
use Rattle.state_memo.specs.{Plain.HasTail, Runs.items_of_last, declared.tail.PlainTail.PlainTail}
use Rattle.state_memo.proofs.Prelude.{Run, all_scalars, items_under_way, length-drop}
use Rattle.state_memo.proofs.{PlainTexts.plain-scalars, Walks.scalars-append}
use Rattle.state_memo.proofs.gathering.finished.Goals as goal

pub of-requires-clause-before : goal.of-requires-clause-before
of-requires-clause-before c =
    let t = c.in-Some.tail in
    let text = c.args.text.now in
    let is : c.args.tail ≡ Some t = search rules in
    let has = subst (λ (o : Option PlainTail). HasTail o text c.args.items.closed.items) is c.requires.tail in
    let counted = rw is at c.requires.counted in
    let front = ap (λ (rs : List Run). all_scalars (items_under_way rs c.args.items.last)) has.1 in
    let last = ap (λ (l : Option Run). all_scalars (items_of_last l)) c.last-front.ensures in
    let all = rw (scalars-append, plain-scalars) at counted in
    omega (arith, all, length-drop t.before text, has.0.within, front, last)
