use Rattle.std.proofs.Common.{◌≡◌, ◌^◌, ◌-◌, ◌<◌, ◌≤◌}
use Rattle.sum_tree.proofs.build.height_of.Given as goal

abbrev pub invariant-loop-width : goal.invariant-loop-width
invariant-loop-width l = (l.width ≡ 2 ^ l.height) × (l.height < l.width) × (l.width ≤ l.count)

abbrev pub decreases-loop-width : goal.decreases-loop-width
decreases-loop-width l = l.count - l.width
