use Rattle.std.{proofs.Common.◌≡◌, specs.List.list_any, specs.Slice.Iter.iter_rest}
use Rattle.connections.specs.Events.{connections}
use Rattle.mio.specs.Events.{items}
use Rattle.serving.specs.Noting.{is_of}
use Rattle.serving.proofs.server.has_listener.Given as goal

abbrev pub invariant-loop-event : goal.invariant-loop-event
invariant-loop-event l = list_any (is_of connections) (iter_rest l.event-iterator) ≡ list_any (is_of connections) (items l.events)
