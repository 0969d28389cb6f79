use Rattle.std.proofs.Common.{◌-◌, ◌≤◌}
use Rattle.sum_tree.specs.{Reached.IsWayTo, Visited.RisesBy}
use Rattle.sum_tree.proofs.node.Child.find.Given as goal

abbrev pub invariant-levels : goal.invariant-levels
invariant-levels g l = record {
  way : IsWayTo g.S.Summary.fits (g.D.Dimension.measure l.dimension) l.target g.S.Summary.empty g.S.Summary.op g.T.Summed.sum_of
      l.fn.before l.self.items l.place l.sum l.node.items;
  below : l.node.height ≤ l.self.height;
  visited : RisesBy (l.self.height - l.node.height) l.initial.visits l.visits;
}

abbrev pub decreases-levels : goal.decreases-levels
decreases-levels g l = l.node.height
