-- How far before the bytes read so far an item ends: by the bytes given back, of which there are few.
use Rattle.std.proofs.Common.{ℕ, zero, suc, ◌+◌, ◌*◌, ◌≤◌, List, length, arith}
use Rattle.codec.proofs.Prelude.{Ended, Answer, Table, turn_at, queue_after, reported, turns, run, Counts, cost, AnyDecoding, any, any_counts}
use Rattle.decoder_core.specs.declared.handler.Answer.TheVariants.{Nothing, Gives, Finished}
use Rattle.codec.specs.Near.{AreNear}

module _ {S : Type 0} (table : Table S) (c : Counts table) where
  near-reported : (a : Answer) (left room : ℕ) (next : S) (es : List Ended) → left + c.bytes next + cost a ≤ room + 1 → AreNear room es
      → AreNear room (reported a left es)
  near-reported Nothing left room next es h k = k
  near-reported (Gives i) left room next es h k = (Prim.omega (arith, h), k)
  near-reported Finished left room next es h k = tt

  near-turns : (n : ℕ) (s : S) (q : List ℕ) (room : ℕ) → length q + c.bytes s ≤ room → AreNear room (turns table n s q)
  unfolding turns
  near-turns zero s q room l = tt
  near-turns (suc n) s q room l =
      near-reported (turn_at table s q).answer (length (queue_after table s q)) room (turn_at table s q).state _ (Prim.omega (arith, c.costs s q, l))
      (near-turns n (turn_at table s q).state (queue_after table s q) room (Prim.omega (arith, c.costs s q, l)))

  near-run : (s : S) (q : List ℕ) (room : ℕ) → length q + c.bytes s ≤ room → AreNear room (run table s q)
  unfolding run
  near-run s q room l = near-turns (8 * length q + 32) s q room l

pub near-any : (d : AnyDecoding) (s : _) (q : List ℕ) → AreNear (length q + 7) (run (any d) s q)
near-any d s q = near-run (any d) (any_counts d) s q (length q + 7) (Prim.omega (arith, (any_counts d).few s))
