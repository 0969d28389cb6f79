-- Decoders over a queue of bytes (Encoding Standard, "Encoders and decoders" and "I/O queues"). A table says what one turn of a decoder's handler
-- does. A run takes turns until the handler answers finished.
use Rattle.std.specs.Prelude.{◌≡◌, ◌≢◌, ℕ, zero, suc, ◌+◌, ◌*◌, ◌<◌, List, [], ◌∷◌, ◌++◌, length, map, Option, Some, None}
use Rattle.decoder_core.specs.declared.item.{Item.Item, Ended.Ended}
use Rattle.decoder_core.specs.declared.handler.Answer.{Answer, TheVariants.Nothing, TheVariants.Gives, TheVariants.Finished}

-- what one turn of a handler does: the next state, its answer, and the bytes that it puts back at the front of the
-- queue
pub record Turn (S : Type 0) : Type 0 where
  pub state : S
  pub answer : Answer
  pub back : List ℕ

-- a decoder's handler: from a state and the item that was read, a byte or (None) the end of the queue
abbrev pub Table : Type 0 → Type 0
Table S = S → Option ℕ → Turn S

-- what is read from a queue: its first byte, or its end
abbrev pub front : List ℕ → Option ℕ
front [] = None
front (b ∷ q) = Some b

-- the queue once that is read; the end stays
abbrev pub behind : List ℕ → List ℕ
behind [] = []
behind (b ∷ q) = q

abbrev pub turn_at : {S : Type 0} → Table S → S → List ℕ → Turn S
turn_at table s q = table s (front q)

-- the queue after a turn
abbrev pub queue_after : {S : Type 0} → Table S → S → List ℕ → List ℕ
queue_after table s q = (turn_at table s q).back ++ behind q

-- the run, as a relation: from a state and a queue to the items up to finished, each with the number of bytes left in the queue after its turn
pub data Runs {S : Type 0} (table : Table S) : S → List ℕ → List Ended → Type 0 where
  finished : {s : S} {q : List ℕ} → (turn_at table s q).answer ≡ Finished → Runs table s q []
  nothing : {s : S} {q : List ℕ} {out : List Ended} → (turn_at table s q).answer ≡ Nothing
      → Runs table (turn_at table s q).state (queue_after table s q) out → Runs table s q out
  gives : {s : S} {q : List ℕ} {out : List Ended} {i : Item} → (turn_at table s q).answer ≡ Gives i
      → Runs table (turn_at table s q).state (queue_after table s q) out
      → Runs table s q (record { item = i; back = length (queue_after table s q) } ∷ out)

-- a turn's answer, with the number of bytes left after it, before the items of the later turns
abbrev pub reported : Answer → ℕ → List Ended → List Ended
reported Nothing left out = out
reported (Gives i) left out = record { item = i; back = left } ∷ out
reported Finished left out = []

-- the items of at most n turns
unfoldable pub turns : {S : Type 0} → Table S → ℕ → S → List ℕ → List Ended
turns table zero s q = []
turns table (suc n) s q =
    reported (turn_at table s q).answer (length (queue_after table s q)) (turns table n (turn_at table s q).state (queue_after table s q))

-- the run, as a function; the number of turns is more than any table with falling weight needs
unfoldable pub run : {S : Type 0} → Table S → S → List ℕ → List Ended
run table s q = turns table (8 * length q + 32) s q

-- the state and the items of the turns that empty a queue and don't read its end
pub record Fed (S : Type 0) : Type 0 where
  pub state : S
  pub items : List Ended

-- a turn's answer before what later turns do; a finished decoder takes no later turn, and stays in the turn's next state
abbrev pub fed_after : {S : Type 0} → Answer → ℕ → S → Fed S → Fed S
fed_after Nothing left next f = f
fed_after (Gives i) left next f = record { state = f.state; items = record { item = i; back = left } ∷ f.items }
fed_after Finished left next f = record { state = next; items = [] }

unfoldable pub feed_for : {S : Type 0} → Table S → ℕ → S → List ℕ → Fed S
feed_for table zero s q = record { state = s; items = [] }
feed_for table (suc n) s [] = record { state = s; items = [] }
feed_for table (suc n) s (b ∷ q) =
    fed_after (table s (Some b)).answer (length (queue_after table s (b ∷ q))) (table s (Some b)).state
    (feed_for table n (table s (Some b)).state (queue_after table s (b ∷ q)))

unfoldable pub feed : {S : Type 0} → Table S → S → List ℕ → Fed S
feed table s q = feed_for table (8 * length q + 32) s q

-- why turns come to an end. The state has a weight below 32, and eight for each byte of the queue and the weight together fall with each
-- turn that isn't finished. A decoder that is finished before the end stays in its state, and answers finished to all that follows
pub record Falls {S : Type 0} (table : Table S) : Type 0 where
  pub held : S → ℕ
  pub small : (s : S) → held s < 32
  pub falls : (s : S) (q : List ℕ) → (turn_at table s q).answer ≢ Finished
      → 8 * length (queue_after table s q) + held (turn_at table s q).state < 8 * length q + held s
  pub stays : (s : S) (b : ℕ) → (table s (Some b)).answer ≡ Finished → (o : Option ℕ)
      → ((table (table s (Some b)).state o).answer ≡ Finished) × ((table (table s (Some b)).state o).state ≡ (table s (Some b)).state)

-- the same items, with n more bytes after them
abbrev pub further : ℕ → List Ended → List Ended
further n es = map (λ (e : Ended). record { item = e.item; back = e.back + n }) es
