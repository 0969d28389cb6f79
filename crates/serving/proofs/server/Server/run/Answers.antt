use Rattle.std.proofs.Common.{[], ◌∷◌, Ok, refl, ap, ◌∙◌}
use Rattle.serving.proofs.Turns as turns
use Rattle.serving.proofs.server.Server.run.Goals as goal

pub loop-init : goal.loop-init
loop-init g c = record {
  turns = ([], (refl, refl), turns.led_nowhere c.law_acts_in_a_row.ensures _ _);
  keeps = λ all. refl;
  seated = c.requires;
}

pub loop-preserved : goal.loop-preserved
loop-preserved g c = record {
  turns = (
    (c.loop.self, c.loop.sessions, c.turn.ensures.turned.0) ∷ c.loop.invariant.turns.0,
    (c.loop.invariant.turns.1, c.turn.ensures.turned.1.turn (search)),
    turns.led_then c.law_acts_in_a_row.ensures _ _ _ _ _ _ _ _ c.loop.invariant.turns.2 c.turn.ensures.turned.1.led,
  );
  keeps = λ all. c.turn.ensures.keeps all ∙ c.loop.invariant.keeps all;
  seated = c.turn.ensures.seated;
}

pub returns-in-Err-clause-ran : goal.returns-in-Err-clause-ran
returns-in-Err-clause-ran g c =
    turns.ran _ c.law_acts_in_a_row.ensures c.loop.invariant.turns.0 _ _ _ _ _ _ _ c.loop.invariant.turns.1 c.loop.invariant.turns.2
    c.in-Err.ensures.turned.1.led (λ poll. c.in-Err.ensures.turned.1.last (λ e. cc) (turns.no_poll _ _ c.in-Err.fault _ _ refl refl poll)) tt

pub returns-in-Ok-false-clause-ran : goal.returns-in-Ok-false-clause-ran
returns-in-Ok-false-clause-ran g c =
    turns.ran _ c.law_acts_in_a_row.ensures c.loop.invariant.turns.0 _ _ _ _ _ _ _ c.loop.invariant.turns.1 c.loop.invariant.turns.2
    c.in-Ok-false.ensures.turned.1.led (λ poll. c.in-Ok-false.ensures.turned.1.last (λ e. cc) (λ e. cc))
    (c.in-Ok-false.ensures.alone (ap Ok c.in-Ok-false.field-0-test))

pub returns-clause-ran : goal.returns-clause-ran
returns-clause-ran g c =
    turns.ran _ c.law_acts_in_a_row.ensures c.loop.invariant.turns.0 _ _ _ _ _ _ _ c.loop.invariant.turns.1 c.loop.invariant.turns.2
    (turns.led_nowhere c.law_acts_in_a_row.ensures _ _) (λ poll. absurd (poll refl)) tt
