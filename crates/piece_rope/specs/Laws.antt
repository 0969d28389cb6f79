-- What is said of a decoder's runs, as one fact. `law_decoder` has it of every decoder; proofs hand it on whole.
use Rattle.std.specs.Prelude.{◌≡◌, ℕ, ◌+◌, true, List, [], ◌++◌, length}
use Rattle.state_memo.specs.Decoding.{feed, run, further, shown_from, shown_items, ended_at, any, AnyDecoding, AnyState}
use Rattle.state_memo.specs.{Facts.IsSumOf, Memo.same_state, Near.AreNear, Outcome.outcome_of, Sums.joined, declared.ended.Ended.Ended, declared.sum.Sum.Sum}

-- its states after bytes, and the outcomes of pieces
pub record Laws (d : AnyDecoding) : Type 0 where
  pub none : (s : AnyState) → (feed (any d) s []).state ≡ s
  pub parts : (s : AnyState) (p q : List ℕ) → (feed (any d) s (p ++ q)).state ≡ (feed (any d) (feed (any d) s p).state q).state
  pub exact : (a b : AnyState) → same_state a b ≡ true → a ≡ b
  pub same : (a : AnyState) → same_state a a ≡ true
  pub exit : (s : AnyState) (bytes : List ℕ) → (outcome_of d s bytes).exit ≡ (feed (any d) s bytes).state
  pub bytes : (s : AnyState) (bytes : List ℕ) → (outcome_of d s bytes).sum.bytes ≡ length bytes

-- the items of its runs
pub record ItemLaws (d : AnyDecoding) : Type 0 where
  pub runs : (s : AnyState) (p q : List ℕ) → run (any d) s (p ++ q) ≡ further (length q) (feed (any d) s p).items ++ run (any d) (feed (any d) s p).state q
  pub shown : (s : AnyState) (q : List ℕ) → shown_items (shown_from (any d) 0 s q) ≡ ended_at (length q) (feed (any d) s q).items
  pub near : (s : AnyState) (q : List ℕ) → AreNear (length q + 7) (run (any d) s q)

-- all of these, and that sums join
pub record AllLaws (d : AnyDecoding) : Type 0 where
  pub laws : Laws d
  pub items : ItemLaws d
  pub joins : (a b : List ℕ) (is js : List Ended) (s t : Sum) → IsSumOf a is s → IsSumOf b js t → IsSumOf (a ++ b) (is ++ js) (joined s t)

unfoldable pub IsLawful : AnyDecoding → Type 0
IsLawful d = AllLaws d
