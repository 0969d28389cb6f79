use Rattle.std.proofs.Common.{◌≡◌, ◌+◌, ◌*◌, vec_len, vec_capacity}
use Rattle.sum_tree.proofs.pool.add_places.Given as goal

abbrev pub invariant-loop-place : goal.invariant-loop-place
invariant-loop-place g l = (vec_len l.pool ≡ vec_len l.initial.pool + 2 * l.place) × (vec_capacity l.pool ≡ vec_capacity l.initial.pool)
