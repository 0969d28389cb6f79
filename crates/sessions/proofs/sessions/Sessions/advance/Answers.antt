use Rattle.std.proofs.Common.{rules, refl, sym, append-nil}
use Rattle.sessions.proofs.Steps as steps
use Rattle.sessions.proofs.sessions.Sessions.advance.Goals as goal

pub write_to-requires : goal.write_to-requires
write_to-requires g c = (
  c.in-Some.session.now,
  steps.present c.self.view_is c.in-Some.ensures.session c.in-Some.ensures.count,
  steps.some_of c.unsent.result.now c.in-Some.session.now.unsent c.unsent.ensures c.if-not-is_empty.ensures,
)

pub ask-requires : goal.ask-requires
ask-requires g c = (
  c.in-Some.session.now.input,
  steps.settled c.in-Some.session.now c.unsent.result.now (steps.present c.self.view_is c.in-Some.ensures.session c.in-Some.ensures.count)
      c.unsent.ensures c.if-not-is_empty.ensures,
)

pub returns-then-ask-clause-step : goal.returns-then-ask-clause-step
returns-then-ask-clause-step g c =
    let here = steps.present c.self.view_is c.in-Some.ensures.session c.in-Some.ensures.count in
    let some = steps.some_of c.input.result.now c.in-Some.session.now.input c.input.ensures c.if-not-is_empty-2.ensures in
    steps.advance_asks _ c.args.c _ _ _ _ _ _ (c.in-Some.session.now, here.is, some) (c.if-ask.ensures.asks refl) refl refl

pub returns-else-ask-clause-step : goal.returns-else-ask-clause-step
returns-else-ask-clause-step g c = steps.advance_none _ c.args.c _ _ _ _ _ _ (λ e. cc) (c.if-ask.ensures.unkept refl) (sym (append-nil _)) (sym (append-nil _))

pub returns-in_default-clause-step : goal.returns-in_default-clause-step
returns-in_default-clause-step g c = steps.advance_none _ c.args.c _ _ _ _ _ _ (λ e. cc) (search rules) (sym (append-nil _)) (sym (append-nil _))

pub returns-then-not-is_empty-clause-unkept : goal.returns-then-not-is_empty-clause-unkept
returns-then-not-is_empty-clause-unkept g c = λ e. absurd (c.write_to.ensures.kept e)

pub returns-clause-unkept : goal.returns-clause-unkept
returns-clause-unkept g c = λ e. absurd (c.read_from.ensures.kept e)

pub returns-then-not-is_empty-clause-unkept_input : goal.returns-then-not-is_empty-clause-unkept_input
returns-then-not-is_empty-clause-unkept_input g c = λ e. absurd (c.write_to.ensures.kept e)

pub returns-else-ask-clause-unkept_input : goal.returns-else-ask-clause-unkept_input
returns-else-ask-clause-unkept_input g c = λ e.
    let here = steps.present c.self.view_is c.in-Some.ensures.session c.in-Some.ensures.count in
    (c.in-Some.session.now, here.is, steps.some_of c.input.result.now c.in-Some.session.now.input c.input.ensures c.if-not-is_empty-2.ensures)

pub returns-clause-unkept_input : goal.returns-clause-unkept_input
returns-clause-unkept_input g c = λ e. absurd (c.read_from.ensures.kept e)
