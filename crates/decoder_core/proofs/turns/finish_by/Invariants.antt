use Rattle.std.proofs.Common.{◌≡◌, [], ◌++◌, ◌+◌, ◌*◌, ◌<◌, ◌≤◌, length}
use Rattle.decoder_core.proofs.Prelude.{run, bytes_of}
use Rattle.decoder_core.proofs.turns.finish_by.Given as goal

abbrev pub invariant-turns : goal.invariant-turns
invariant-turns g l = record {
  weight : 8 * length (bytes_of l.queue) + (g.met.H.Handler.ends l.handler).held l.reached < 40;
  room : length l.items + length (bytes_of l.queue) + (g.met.H.Handler.counts l.handler).bytes l.reached ≤ 7;
  items : l.items ++ run (g.H.Handler.table l.handler) l.reached (bytes_of l.queue) ≡ run (g.H.Handler.table l.handler) l.fn.state [];
}

abbrev pub decreases-turns : goal.decreases-turns
decreases-turns g l = 8 * length (bytes_of l.queue) + (g.met.H.Handler.ends l.handler).held l.reached
