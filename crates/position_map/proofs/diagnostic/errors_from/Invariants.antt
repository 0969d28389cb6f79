use Rattle.std.proofs.Common.{◌≡◌, ℕ, ◌+◌, ◌-◌, ◌*◌, ◌^◌, ◌<◌, ◌≤◌, length, take, drop}
use Rattle.position_map.proofs.Words.{all_errors}
use Rattle.position_map.proofs.diagnostic.errors_from.Given as goal

abbrev pub invariant-pieces : goal.invariant-pieces
invariant-pieces l = record {
  listed : l.errors.items ≡ take (length l.errors.items) (drop l.from (all_errors l.parts.doc));
  few : length l.errors.items ≤ l.count;
  most : (d : ℕ) → length l.parts.pieces < 2 ^ d → l.visits ≤ l.fn.visits + length l.errors.items * (2 * (d + 2));
  kept : l.fn.visits ≤ l.visits;
}

abbrev pub decreases-pieces : goal.decreases-pieces
decreases-pieces l = l.count - length l.errors.items
