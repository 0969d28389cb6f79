use Rattle.std.proofs.Common.{◌≡◌, ◌++◌, take, drop}
use Rattle.state_memo.specs.Memo.{fitting}
use Rattle.state_memo.proofs.piece.Piece.count_fitting.Given as goal

abbrev pub invariant-known : goal.invariant-known
invariant-known l = fitting l.fn.most l.self.known ≡ take l.i l.self.known ++ fitting l.left (drop l.i l.self.known)
