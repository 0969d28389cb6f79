use Rattle.std.proofs.Common.{◌+◌, arith, refl, subst, sym, ◌∙◌}
use Rattle.sessions.specs.Advances.{HasInput}
use Rattle.serving.specs.declared.server.TheConstants.{STEPS}
use Rattle.serving.proofs.Acting as acting
use Rattle.serving.proofs.server.advance_on.Goals as goal

pub loop-init : goal.loop-init
loop-init g c = record {
  carried = acting.nothing_carried c.law_acts_in_a_row.ensures c.args.c _ _ _;
  stays = refl;
  others = λ d ne. refl;
}

pub loop-preserved : goal.loop-preserved
loop-preserved g c = record {
  carried = acting.carried_on c.law_acts_in_a_row.ensures _ c.args.c c.loop.counter (c.loop.counter + 1) ⊥ ⊥ _ _ _ _ _ _
      (omega arith) (λ never. absurd never) c.loop.invariant.carried c.advance.ensures.step;
  stays = c.advance.ensures.step.stays ∙ c.loop.invariant.stays;
  others = λ d ne. c.advance.ensures.step.others d ne ∙ c.loop.invariant.others d ne;
}

pub returns-in_default : goal.returns-in_default
returns-in_default g c = record {
  carried = acting.carried_on c.law_acts_in_a_row.ensures _ c.args.c c.loop.counter STEPS ⊥ _ _ _ _ _ _ _
      (omega arith) (λ moved. moved) c.loop.invariant.carried c.advance.ensures.step;
  rests = c.advance.ensures.rests;
  keeps = c.advance.ensures.kept;
  unkept = λ e. subst (HasInput c.args.c) (sym (c.advance.ensures.unkept e)) (c.advance.ensures.unkept_input e);
  over = λ e. acting.over_since _ _ _ c.loop.invariant.stays (c.advance.ensures.over e);
  stays = c.advance.ensures.step.stays ∙ c.loop.invariant.stays;
  others = λ d ne. c.advance.ensures.step.others d ne ∙ c.loop.invariant.others d ne;
}

pub returns-clause-carried : goal.returns-clause-carried
returns-clause-carried g c = acting.carried_on c.law_acts_in_a_row.ensures _ c.args.c c.loop.counter STEPS ⊥ _ _ _ _ _ _ _
    (omega arith) (λ moved. moved) c.loop.invariant.carried c.advance-2.ensures.step

pub returns-clause-over : goal.returns-clause-over
returns-clause-over g c e = acting.over_since _ _ _ c.loop.invariant.stays (c.advance-2.ensures.over e)

pub returns-clause-unkept : goal.returns-clause-unkept
returns-clause-unkept g c e = subst (HasInput c.args.c) (sym (c.advance-2.ensures.unkept e)) (c.advance-2.ensures.unkept_input e)
