use Rattle.gateway.proofs.Prelude.{◌≡◌, length, Played}
use Rattle.gateway.proofs.traces.play.play_rest.Given as goal

abbrev pub invariant-loop-rest : goal.invariant-loop-rest
invariant-loop-rest g l = record {
  played : Played l.c l.bytes l.rest (g.G.TakesEvents.traffic l.initial.gateway) (g.G.TakesEvents.traffic l.gateway)
      (g.W.Outlet.took l.initial.writer).written (g.W.Outlet.took l.writer).written;
  fine : (g.W.Outlet.took l.writer).failures ≡ (g.W.Outlet.took l.initial.writer).failures;
}

abbrev pub decreases-loop-rest : goal.decreases-loop-rest
decreases-loop-rest g l = length l.rest
