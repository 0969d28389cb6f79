use Rattle.piece_rope.proofs.Prelude.{◌≡◌, ◌+◌, ◌≤◌, ◌++◌, length, take, drop, CanJoin}
use Rattle.piece_rope.proofs.install.insert_all.Given as goal

abbrev pub invariant-fresh : goal.invariant-fresh
invariant-fresh l = record {
  within : l.first ≤ length l.pieces.items;
  items : take l.first l.pieces.items ++ (l.fresh.items ++ drop l.first l.pieces.items) ≡ take l.first l.initial.pieces.items
      ++ (l.fn.fresh.items ++ drop l.first l.initial.pieces.items);
  room : length l.fresh.items ≤ l.pieces.spare;
  spare : l.pieces.spare + length l.fn.fresh.items ≡ l.initial.pieces.spare + length l.fresh.items;
  join : CanJoin (take l.first l.pieces.items ++ (l.fresh.items ++ drop l.first l.pieces.items));
}

abbrev pub decreases-fresh : goal.decreases-fresh
decreases-fresh l = length l.fresh.items
