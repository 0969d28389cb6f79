use Rattle.connections.specs.Events.{Closing}
use Rattle.records.proofs.record.Record.close.Goals as goal

pub returns-in-Ok-put-clause-record : goal.returns-in-Ok-put-clause-record
returns-in-Ok-put-clause-record g c =
    λ begun s. c.law_records.ensures.recorded _ _ begun (Closing c.args.c) c.in-Ok.out.taken c.in-Ok.out.reply s tt tt
    c.in-Ok.ensures.fault c.in-Ok.ensures.step
