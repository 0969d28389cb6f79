use Rattle.std.proofs.Common.{◌≡◌, subst, rules, Option, Some}
use Rattle.std.proofs.lemmas.Option.{IfSome_then}
use Rattle.state_memo.specs.{Plain.HasTail, declared.tail.PlainTail.PlainTail}
use Rattle.state_memo.proofs.gathering.tail_with_part.Goals as goal

pub returns-in-Some-clause-tail : goal.returns-in-Some-clause-tail
returns-in-Some-clause-tail c = λ cs ds closed alone has before part.
    let is : c.args.tail ≡ Some c.in-Some.tail = search rules in
    let here = subst (λ (t : Option PlainTail). HasTail t cs closed) is has in
    IfSome_then c.with.result (c.with.ensures.tail cs ds here.0 part) (λ t held. (held, here.1))
