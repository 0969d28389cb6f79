use Rattle.gateway.proofs.{Prelude.◌∙◌, Prelude.rules, Prelude.Failed, Played.played-on, Played.played-until}
use Rattle.lemmas.proofs.Lists.{rest-is}
use Rattle.gateway.proofs.traces.play.play_rest.Goals as goal

pub slice_bounds-rest-count : goal.slice_bounds-rest-count
slice_bounds-rest-count g c = c.law_events.ensures.within _ _ _ _ _ _ c.bring-taken.ensures.step

pub slice_bounds-rest-start : goal.slice_bounds-rest-start
slice_bounds-rest-start g c = c.law_events.ensures.within _ _ _ _ _ _ c.bring-taken.ensures.step

pub loop-rest-preserved : goal.loop-rest-preserved
loop-rest-preserved g c = record {
  played = rw (rest-is c.bring-taken.result.taken c.loop-rest.rest.now)
      (played-on c.law_lines.ensures c.law_events_go_on.ensures c.args.c c.args.bytes.now c.loop-rest.rest.now _ _ _ _ _ _ c.bring-taken.result.taken
      c.bring-taken.result.reply c.loop-rest.invariant.played
      (search rules) c.bring-taken.ensures.step
      (c.law_events.ensures.stays_open _ _ _ _ _ _ c.bring-taken.ensures.step c.loop-rest.invariant.played.is_open
      c.bring-taken.ensures.count) c.in-Ok.ensures.prints);
  fine = c.in-Ok.ensures.failures ∙ c.loop-rest.invariant.fine;
}

pub returns-in-Err-clause-plays : goal.returns-in-Err-clause-plays
returns-in-Err-clause-plays g c =
    played-until c.law_lines.ensures c.law_events_go_on.ensures (Unit {0}) Failed c.in-Err.field-0 c.args.c c.args.bytes.now c.loop-rest.rest.now _ _ _ _ _ _
    c.bring-taken.result.taken c.bring-taken.result.reply c.loop-rest.invariant.played
    (search rules) c.bring-taken.ensures.step c.in-Err.ensures.prints
