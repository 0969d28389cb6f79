use Rattle.std.proofs.Common.{◌≡◌, ℕ, ◌+◌, ◌*◌, ◌^◌, ◌<◌, ◌≤◌, length, map, take}
use Rattle.position_map.{specs.Reaching.IsReached, proofs.Words.diagnostic_at, proofs.Words.text_of}
use Rattle.position_map.proofs.diagnostic.show_errors.Given as goal

abbrev pub invariant-errors : goal.invariant-errors
invariant-errors l = record {
  at : IsReached l.unit (text_of l.parts.doc) l.at;
  page : l.page.items ≡ map (diagnostic_at (text_of l.parts.doc) l.unit) (take l.error-index l.errors);
  most : (d : ℕ) → length l.parts.pieces < 2 ^ d → l.visits ≤ l.fn.visits + l.error-index * (3 * (d + 2));
  kept : l.fn.visits ≤ l.visits;
}
