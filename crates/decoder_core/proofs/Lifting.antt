-- Runs and feeds of a decoder that stands for another.
use Rattle.std.proofs.Common.{◌≡◌, ℕ, zero, suc, ◌+◌, ◌*◌, List, [], ◌∷◌, ◌++◌, length, Some, refl}
use Rattle.decoder_core.proofs.Prelude.{Answer, Nothing, Gives, Finished, Fed, front, turns, run, fed_after, feed_for, feed}
use Rattle.decoder_core.specs.{Queue.Table, Queue.behind, Lift.lift_fed, Lift.IsLifted}

fed-lifted : {S T : Type 0} (f : S → T) (a : Answer) (left : ℕ) (next : S) (x : Fed S)
    → fed_after a left (f next) (lift_fed f x) ≡ lift_fed f (fed_after a left next x)
fed-lifted f Nothing left next x = refl
fed-lifted f (Gives i) left next x = refl
fed-lifted f Finished left next x = refl

module _ {S T : Type 0} (f : S → T) (small : Table S) (big : Table T) (same : IsLifted f small big) where
  turns-lift : (n : ℕ) (s : S) (q : List ℕ) → turns big n (f s) q ≡ turns small n s q
  unfolding turns
  turns-lift zero s q = refl
  turns-lift (suc n) s q = let t = small s (front q) in rw (same s (front q), turns-lift n t.state (t.back ++ behind q))

  pub run-lift : (s : S) (q : List ℕ) → run big (f s) q ≡ run small s q
  unfolding run
  run-lift s q = turns-lift (8 * length q + 32) s q

  feed_for-lift : (n : ℕ) (s : S) (q : List ℕ) → feed_for big n (f s) q ≡ lift_fed f (feed_for small n s q)
  unfolding feed_for
  feed_for-lift zero s q = refl
  feed_for-lift (suc n) s [] = refl
  feed_for-lift (suc n) s (b ∷ q) =
      let t = small s (Some b) in rw (same s (Some b), feed_for-lift n t.state (t.back ++ q)) (fed-lifted f t.answer _ t.state _)

  pub feed-lift : (s : S) (q : List ℕ) → feed big (f s) q ≡ lift_fed f (feed small s q)
  unfolding feed
  feed-lift s q = feed_for-lift (8 * length q + 32) s q
