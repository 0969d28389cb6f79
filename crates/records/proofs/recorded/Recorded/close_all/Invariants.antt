use Rattle.std.proofs.Common.{◌≡◌, ℕ, ◌<◌, ◌≤◌, None, IsSome}
use Rattle.connections.specs.Events.{line_at}
use Rattle.records.specs.Losses.{IsWritten, closings, seen_as}
use Rattle.records.proofs.recorded.Recorded.close_all.Given as goal

abbrev pub invariant-loop-c : goal.invariant-loop-c
invariant-loop-c g l = record {
  shut : (d : ℕ) → d < l.c → line_at (seen_as l.self.lost l.self.gateway) d ≡ None;
  ahead : (d : ℕ) → l.c ≤ d → line_at (seen_as l.self.lost l.self.gateway) d ≡ line_at (seen_as l.initial.self.lost l.initial.self.gateway) d;
  office : (seen_as l.self.lost l.self.gateway).office ≡ (seen_as l.initial.self.lost l.initial.self.gateway).office;
  written : IsWritten l.self.lost (closings l.c (seen_as l.initial.self.lost l.initial.self.gateway))
      (g.J.Outlet.took l.initial.self.record.device).written (g.J.Outlet.took l.self.record.device).written;
  lost : IsSome l.initial.self.lost → IsSome l.self.lost
      × (g.J.Outlet.took l.self.record.device ≡ g.J.Outlet.took l.initial.self.record.device);
}
