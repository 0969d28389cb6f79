use Rattle.std.proofs.Common.{refl}
use Rattle.devices.specs.declared.device.Failed.{Failed}
use Rattle.connections.proofs.Took.{took_within, delivered_written, delivered_unwritten}
use Rattle.connections.proofs.serve.ConnectionTaker.take.Goals as goal

pub returns-in-Ok-write_reply-clause-bound : goal.returns-in-Ok-write_reply-clause-bound
returns-in-Ok-write_reply-clause-bound g c = took_within _ _ _ _ _ _ c.in-Ok.ensures.step

pub returns-in-Ok-write_reply-clause-takes : goal.returns-in-Ok-write_reply-clause-takes
returns-in-Ok-write_reply-clause-takes g c = (
  refl,
  delivered_written _ _ _ _ _ (Unit {0}) Failed c.in-Ok-write_reply.field-0 _ (g.W.Outlet.took c.args.writer.now) (g.W.Outlet.took c.write_reply.new.writer)
      c.in-Ok.ensures.step c.requires.ready c.event.ensures.count c.in-Ok-write_reply.ensures.writes c.in-Ok-write_reply.ensures.failures,
)

pub returns-in-Err-clause-takes : goal.returns-in-Err-clause-takes
returns-in-Err-clause-takes g c =
    delivered_unwritten _ _ _ _ _ (Unit {0}) Failed c.in-Err.field-0 _ (g.W.Outlet.took c.args.writer.now) (g.W.Outlet.took c.write_reply.new.writer)
    c.in-Ok.ensures.step c.requires.ready c.event.ensures.count c.in-Err.ensures.writes c.in-Err.ensures.failures
