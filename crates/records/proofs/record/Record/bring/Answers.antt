use Rattle.std.proofs.Common.{arith}
use Rattle.connections.specs.Events.{Bringing}
use Rattle.records.proofs.record.Record.bring.Goals as goal

pub returns-in-Ok-put_brought-clause-record : goal.returns-in-Ok-put_brought-clause-record
returns-in-Ok-put_brought-clause-record g c =
    λ begun s. c.law_records.ensures.recorded _ _ begun (Bringing c.args.c c.args.bytes.now) c.in-Ok.out.taken c.in-Ok.out.reply s
    c.requires (λ i. let f = c.type_inv.bytes i in omega arith) c.in-Ok.ensures.fault c.in-Ok.ensures.step
