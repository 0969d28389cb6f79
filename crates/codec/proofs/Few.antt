-- How many items a decoder gives: one for each byte read, and at most seven more.
use Rattle.std.proofs.Common.{◌≡◌, refl, ap, ℕ, zero, suc, ◌+◌, ◌*◌, ◌≤◌, List, [], ◌∷◌, length, length-append, arith, Some}
use Rattle.codec.proofs.Prelude.{Ended, Answer, Table, Fed, turn_at, queue_after, reported, fed_after}
use Rattle.codec.proofs.Prelude.{turns, run, feed_for, feed, Counts, cost, shown_at, shown_from}
use Rattle.decoder_core.specs.declared.handler.Answer.TheVariants.{Gives}

module _ {S : Type 0} (table : Table S) (c : Counts table) where
  after_turn : (a : Answer) (left room : ℕ) (next : S) (f : Fed S) → left + c.bytes next + cost a ≤ room
      → length f.items + c.bytes f.state ≤ left + c.bytes next → length (fed_after a left next f).items + c.bytes (fed_after a left next f).state ≤ room
  after_turn (Gives i) left room next f h k = Prim.omega (arith, h, k)
  after_turn a left room next f h k = Prim.omega (arith, h, k)

  few-feed_for : (n : ℕ) (s : S) (q : List ℕ) → length (feed_for table n s q).items + c.bytes (feed_for table n s q).state ≤ length q + c.bytes s
  unfolding feed_for
  few-feed_for zero s q = Prim.omega arith
  few-feed_for (suc n) s [] = Prim.omega arith
  few-feed_for (suc n) s (b ∷ q) =
      after_turn (table s (Some b)).answer _ _ _ _ (c.costs s (b ∷ q)) (few-feed_for n (table s (Some b)).state (queue_after table s (b ∷ q)))

  pub few-feed : (s : S) (q : List ℕ) → length (feed table s q).items + c.bytes (feed table s q).state ≤ length q + c.bytes s
  unfolding feed
  few-feed s q = few-feed_for (8 * length q + 32) s q

  few-reported : (a : Answer) (left room : ℕ) (next : S) (es : List Ended) → left + c.bytes next + cost a ≤ room
      → length es ≤ left + c.bytes next → length (reported a left es) ≤ room
  few-reported (Gives i) left room next es h k = Prim.omega (arith, h, k)
  few-reported a left room next es h k = Prim.omega (arith, h, k)

  few-turns : (n : ℕ) (s : S) (q : List ℕ) → length (turns table n s q) ≤ length q + c.bytes s
  unfolding turns
  few-turns zero s q = Prim.omega arith
  few-turns (suc n) s q =
      few-reported (turn_at table s q).answer _ _ _ _ (c.costs s q) (few-turns n (turn_at table s q).state (queue_after table s q))

  -- a run from a state that holds nothing
  pub few-run_from : (s : S) (q : List ℕ) → c.bytes s ≡ 0 → length (run table s q) ≤ length q
  unfolding run
  few-run_from s q none = Prim.omega (arith, few-turns (8 * length q + 32) s q, none)

  pub few-run : (s : S) → length (run table s []) ≤ 7
  unfolding run
  few-run s = Prim.omega (arith, few-turns 32 s [], c.few s)

  few-shown_from : (read : ℕ) (s : S) (q : List ℕ) → length (shown_from table read s q) ≤ length q + c.bytes s
  few-shown_from read s [] = Prim.omega arith
  few-shown_from read s (b ∷ q) =
      let f = feed table s (b ∷ []) in
      Prim.simp (length-append, few-at) (Prim.omega (arith, few-feed s (b ∷ []), few-shown_from (read + 1) f.state q))
    where
      few-at : (read : ℕ) (s : S) (es : List Ended) → length (shown_at read s es) ≡ length es
      few-at read s [] = refl
      few-at read s (e ∷ es) = ap (λ (n : ℕ). suc n) (few-at read s es)

  pub few-shown : (read : ℕ) (s : S) (q : List ℕ) → length (shown_from table read s q) ≤ length q + 7
  few-shown read s q = Prim.omega (arith, few-shown_from read s q, c.few s)
