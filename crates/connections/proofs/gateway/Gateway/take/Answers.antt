use Rattle.std.proofs.Common.{refl, sym, ◌∙◌, ap, slice_set, Some, set-set}
use Rattle.connections.proofs.Took.{takes_line, takes_none}
use Rattle.connections.proofs.gateway.Gateway.take.Goals as goal

pub returns-in_default-line-clause-step : goal.returns-in_default-line-clause-step
returns-in_default-line-clause-step c =
    let step = rw c.in_default-line.is at c.take-taken.ensures.line in
    rw (← c.self.view_is) (record {
      begun = c.in-Some.begun;
      next = c.take-taken.new.self;
      was = sym c.in-Some.ensures.line;
      takes = takes_none _ _ _ _ _ _ c.take-taken.ensures.count step.0 refl step.1;
      lines = c.put.ensures ∙ ap (λ l. slice_set l c.args.c (Some c.take-taken.new.self)) c.in-Some.ensures.rest ∙ set-set _ _ _ _;
    })

pub returns-clause-step : goal.returns-clause-step
returns-clause-step c =
    let step = rw c.in-Some-line.is at c.take-taken.ensures.line in
    rw (← c.self.view_is) (record {
      begun = c.in-Some.begun;
      next = c.take-taken.new.self;
      was = sym c.in-Some.ensures.line;
      takes = takes_line _ _ _ _ _ _ c.take-taken.ensures.count _ _ step.0 step.1 step.2 c.reply_on-reply.ensures;
      lines = c.put.ensures ∙ ap (λ l. slice_set l c.args.c (Some c.take-taken.new.self)) c.in-Some.ensures.rest ∙ set-set _ _ _ _;
    })
