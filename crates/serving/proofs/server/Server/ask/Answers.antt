use Rattle.std.proofs.Common.{refl}
use Rattle.mio.specs.Events.{items}
use Rattle.serving.proofs.Sockets as sockets
use Rattle.serving.proofs.server.Server.ask.Goals as goal

pub returns-clause-kept : goal.returns-clause-kept
returns-clause-kept c = record {
  limits = refl;
  refused = refl;
  unkept = refl;
  alone = refl;
  carries = sockets.carries_noted _ _ (items c.poll.new.events) c.note_all.ensures.noted refl;
}
