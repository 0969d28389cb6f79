use Rattle.std.proofs.Common.{◌≡◌, [], ◌∷◌, ◌++◌, ◌+◌, ◌*◌, ◌<◌, ◌≤◌, length}
use Rattle.decoder_core.proofs.Prelude.{feed, bytes_of}
use Rattle.decoder_core.proofs.turns.turns_over.Given as goal

abbrev pub invariant-turns : goal.invariant-turns
invariant-turns g l = record {
  weight : 8 * length (bytes_of l.queue) + (g.met.H.Handler.ends l.handler).held l.state < 40;
  room : length l.items + length (bytes_of l.queue) + (g.met.H.Handler.counts l.handler).bytes l.state ≤ 8;
  state : (feed (g.H.Handler.table l.handler) l.state (bytes_of l.queue)).state ≡ (feed (g.H.Handler.table l.handler) l.fn.state (l.byte ∷ [])).state;
  items : l.items ++ (feed (g.H.Handler.table l.handler) l.state (bytes_of l.queue)).items
      ≡ (feed (g.H.Handler.table l.handler) l.fn.state (l.byte ∷ [])).items;
}

abbrev pub decreases-turns : goal.decreases-turns
decreases-turns g l = 8 * length (bytes_of l.queue) + (g.met.H.Handler.ends l.handler).held l.state
