use Rattle.std.proofs.Common.{◌∙◌, arith}
use Rattle.state_memo.proofs.Filled.{known-at, places-of}
use Rattle.state_memo.proofs.{Places.fitting-at, piece.Piece.count_fitting.Goals.in-Known, piece.Piece.count_fitting.Goals.in-Free}
use Rattle.state_memo.proofs.piece.Piece.count_fitting.Goals as goal

pub returns-then-memory-left-clause-fitting : goal.returns-then-memory-left-clause-fitting
returns-then-memory-left-clause-fitting c =
    let here = c.as_slice-known.ensures ∙ places-of _ _ _ c.self.view_is c.self.invariant.2 in
    elim c.match-known-i.branch [
      | in-Known w ↦
          let at = known-at _ _ here c.known.i _ c.known-test.true c.index-known-i.is _ _ w.in-Known.is in
          fitting-at c.args.self.now.known c.args.most c.known.left c.known.i _ at c.known.invariant
          (omega (arith, c.if-memory-left.true, w.memory-is, w.memory-memory.ensures))
      | in-Free w ↦ absurd (omega (arith, c.if-memory-left.true, w.memory-is))
    ]
