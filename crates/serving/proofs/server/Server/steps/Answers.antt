use Rattle.std.proofs.{Common.◌∙◌, Common.ap, Common.refl, Common.arith, lemmas.Bool.or_parts}
use Rattle.serving.specs.declared.server.Server.{Server}
use Rattle.serving.proofs.Resting as resting
use Rattle.serving.proofs.Turns as turns
use Rattle.serving.proofs.server.Server.steps.Goals as goal

pub loop-c-init : goal.loop-c-init
loop-c-init g c = record {
  steps = turns.stood c.law_acts_in_a_row.ensures _ _ _ (λ e. cc);
  rest = λ quiet d small. absurd (omega (arith, small));
  no_more = λ quiet was. was;
  causes = λ d was gone. absurd (was gone);
  seated = c.requires;
  limits = refl;
  kept = refl;
  keeps = λ all. refl;
  unkept = λ e. e;
}

pub loop-c-preserved : goal.loop-c-preserved
loop-c-preserved g c = record {
  steps = turns.stepped_more c.law_acts_in_a_row.ensures c.loop-c.c _ c.step-moved.result _ _ _ _ _ _ c.loop-c.invariant.steps
      c.step-moved.ensures.steps c.step-moved.ensures.rests c.step-moved.ensures.others;
  rest = resting.steps_more _ _ c.loop-c.c _ _ _ _ c.loop-c.invariant.rest c.step-moved.ensures.rests c.step-moved.ensures.others;
  no_more = λ quiet was. let none = or_parts _ _ quiet in c.step-moved.ensures.no_more none.1 (c.loop-c.invariant.no_more none.0 was);
  causes = resting.causes_more c.loop-c.c c.loop-c.self c.step-moved.new.self _ _ c.args.sessions.now _ _ c.loop-c.invariant.causes
      c.step-moved.ensures.caused c.step-moved.ensures.gone c.step-moved.ensures.others;
  seated = c.step-moved.ensures.seated;
  limits = c.step-moved.ensures.limits ∙ c.loop-c.invariant.limits;
  keeps = λ all. c.step-moved.ensures.keeps all ∙ c.loop-c.invariant.keeps all;
  unkept = λ e. c.step-moved.ensures.unkept (c.loop-c.invariant.unkept e);
  kept = c.step-moved.ensures.kept
      ∙ ap (λ (s : Server). record s {
        peers = c.step-moved.new.self.peers;
        is_unkept = c.step-moved.new.self.is_unkept;
        left = c.step-moved.new.self.left;
      }) c.loop-c.invariant.kept;
}
