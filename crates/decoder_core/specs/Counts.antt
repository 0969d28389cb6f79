-- How many items one step can give.
use Rattle.std.specs.Prelude.{ℕ, ◌+◌, ◌≤◌, List, length}
use Rattle.decoder_core.specs.declared.handler.Answer.{Answer, TheVariants.Nothing, TheVariants.Gives, TheVariants.Finished}
use Rattle.decoder_core.specs.Queue.{Table, turn_at, queue_after}

abbrev pub cost : Answer → ℕ
cost Nothing = 0
cost (Gives i) = 1
cost Finished = 0

-- each item takes up a byte that was read, or one that the state holds, of which there are at most seven
pub record Counts {S : Type 0} (table : Table S) : Type 0 where
  pub bytes : S → ℕ
  pub few : (s : S) → bytes s ≤ 7
  pub costs : (s : S) (q : List ℕ)
      → length (queue_after table s q) + bytes (turn_at table s q).state + cost (turn_at table s q).answer ≤ length q + bytes s
