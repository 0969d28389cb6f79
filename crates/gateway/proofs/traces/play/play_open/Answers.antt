use Rattle.gateway.proofs.{Prelude.refl, Prelude.Opening, Prelude.Failed, Played.alone-play}
use Rattle.gateway.proofs.traces.play.play_open.Goals as goal

pub returns-clause-plays : goal.returns-clause-plays
returns-clause-plays g c =
    alone-play (Unit {0}) Failed tt _ _ (Opening c.args.c) c.in-Ok.field-0.taken c.in-Ok.field-0.reply _ c.in-Ok.ensures.fault
    c.in-Ok.ensures.step refl c.in-Ok.ensures.step.1
