use Rattle.piece_rope.proofs.Prelude.{◌-◌, ◌++◌, drop, length}
use Rattle.piece_rope.{specs.Ahead.chunks, specs.Ahead.left_of, specs.Ahead.together, proofs.Matching.Found}
use Rattle.piece_rope.proofs.ahead.Ahead.behind.Given as goal

abbrev pub invariant-chunks : goal.invariant-chunks
invariant-chunks l = Found l.fn.part l.left (left_of l.fn.self) (l.head ++ together (drop l.next (chunks l.fn.self.wanted)))

abbrev pub decreases-chunks : goal.decreases-chunks
decreases-chunks l = length (chunks l.fn.self.wanted) - l.next
