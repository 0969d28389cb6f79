use Rattle.std.proofs.Common.{◌≡◌, ◌-◌}
use Rattle.records.proofs.Putting.{PartsSoFar}
use Rattle.records.proofs.documents.put_parts.Given as goal

abbrev pub invariant-parts : goal.invariant-parts
invariant-parts g l = record {
  parts : PartsSoFar l.held.1.bytes l.at (g.W.Outlet.took l.initial.out).written (g.W.Outlet.took l.out).written;
  fine : (g.W.Outlet.took l.out).failures ≡ (g.W.Outlet.took l.initial.out).failures;
}

abbrev pub decreases-parts : goal.decreases-parts
decreases-parts g l = l.len - l.at
