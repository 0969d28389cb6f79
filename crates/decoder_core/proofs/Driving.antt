-- One turn of a decoder that is made of its handler.
use Rattle.std.proofs.Common.{◌≡◌, ◌≢◌, ℕ, ◌+◌, ◌*◌, ◌<◌, ◌≤◌, List, [], ◌∷◌, ◌++◌, length, Option, Some, None, refl, append_assoc, append-nil}
use Rattle.decoder_core.proofs.Prelude.{Item, Ended, Answer, Gives, Finished, Fed, Falls, front, turn_at, queue_after, reported, run, feed, Counts, cost}
use Rattle.decoder_core.specs.Queue.{Table, behind}
use Rattle.decoder_core.proofs.Running.{run-turn, feed-nil, feed-turn, fed_items-reported, fed_state-on}

-- an item that is put after the others
pub pushed : (xs all later new : List Ended) {i : Item} {n left : ℕ} {a : Answer}
    → new ≡ xs ++ record { item = i; back = n } ∷ [] → n ≡ left → a ≡ Gives i → all ≡ reported a left later → new ++ later ≡ xs ++ all
pushed xs all later new new_is n_is a_is all_is = rw (new_is, all_is, a_is, n_is, append_assoc)

-- nothing is put where a queue gives nothing
pub nothing_more : {S : Type 0} (xs : List Ended) (fed : Fed S) (s : S) → fed ≡ record { state = s; items = [] } → xs ≡ xs ++ fed.items
nothing_more xs fed s none = rw (none, append-nil)

module _ {S : Type 0} {table : Table S} (f : Falls table) (c : Counts table) where
  -- what a turn that isn't finished does to the queue and to what is to come
  pub record Turned (s : S) (q : List ℕ) (next : S) (a : Answer) (left : List ℕ) : Type 0 where
    pub weight : 8 * length left + f.held next < 8 * length q + f.held s
    pub room : length left + c.bytes next + cost a ≤ length q + c.bytes s
    pub runs : run table s q ≡ reported a (length left) (run table next left)

  pub record FedOn (s : S) (q : List ℕ) (next : S) (a : Answer) (left : List ℕ) : Type 0 where
    pub turn : Turned s q next a left
    pub state : (feed table s q).state ≡ (feed table next left).state
    pub items : (feed table s q).items ≡ reported a (length left) (feed table next left).items

  turned-at : (s : S) (q : List ℕ) → (turn_at table s q).answer ≢ Finished
      → Turned s q (turn_at table s q).state (turn_at table s q).answer (queue_after table s q)
  turned-at s q going = record { weight = f.falls s q going; room = c.costs s q; runs = run-turn f s q }

  pub turned : (s : S) (q : List ℕ) {next : S} {back rest left : List ℕ} {o : Option ℕ} {a : Answer}
      → o ≡ front q → rest ≡ behind q → next ≡ (table s o).state → a ≡ (table s o).answer → back ≡ (table s o).back → left ≡ back ++ rest
      → a ≢ Finished → Turned s q next a left
  turned s q o_is rest_is next_is a_is back_is left_is going = rw (left_is, back_is, rest_is, next_is, a_is, o_is) (turned-at s q (rw (a_is, o_is) at going))

  fed_on-at : (s : S) (b : ℕ) (q : List ℕ) → (table s (Some b)).answer ≢ Finished
      → FedOn s (b ∷ q) (table s (Some b)).state (table s (Some b)).answer (queue_after table s (b ∷ q))
  fed_on-at s b q going = record {
    turn = turned-at s (b ∷ q) going;
    state = rw (feed-turn f s b q) (fed_state-on (table s (Some b)).answer _ _ _ going);
    items = rw (feed-turn f s b q) (fed_items-reported (table s (Some b)).answer _ _ _);
  }

  pub fed_on : (s : S) (q : List ℕ) {next : S} {back rest left : List ℕ} {b : ℕ} {a : Answer}
      → Some b ≡ front q → rest ≡ behind q → next ≡ (table s (Some b)).state → a ≡ (table s (Some b)).answer
      → back ≡ (table s (Some b)).back → left ≡ back ++ rest
      → a ≢ Finished → FedOn s q next a left
  fed_on s [] o_is rest_is next_is a_is back_is left_is going = absurd (cc)
  fed_on s (d ∷ q) {b = b} o_is rest_is next_is a_is back_is left_is going =
      let same : b ≡ d = cc in rw (left_is, back_is, rest_is, next_is, a_is, same) (fed_on-at s d q (rw (a_is, same) at going))

  pub fed_finished : (s : S) (q : List ℕ) {next : S} {b : ℕ} {a : Answer}
      → Some b ≡ front q → next ≡ (table s (Some b)).state → a ≡ (table s (Some b)).answer → a ≡ Finished
      → feed table s q ≡ record { state = next; items = [] }
  fed_finished s [] o_is next_is a_is finished = absurd (cc)
  fed_finished s (d ∷ q) {b = b} o_is next_is a_is finished =
      let same : b ≡ d = cc in
      let over = rw (a_is, same) at finished in
      rw (feed-turn f s d q, over, next_is, same)

  pub run_finished : (s : S) (q : List ℕ) {o : Option ℕ} {a : Answer} → o ≡ front q → a ≡ (table s o).answer → a ≡ Finished → run table s q ≡ []
  run_finished s q o_is a_is finished = let over = rw (a_is, o_is) at finished in rw (run-turn f s q, over)

  -- a step that is one turn
  pub one_turn : (s : S) {next : S} {back : List ℕ} (b : ℕ) {a : Answer}
      → next ≡ (table s (Some b)).state → a ≡ (table s (Some b)).answer → back ≡ (table s (Some b)).back → back ≡ []
      → (is : Answer) → a ≡ is → a ≢ Finished → (next ≡ (feed table s (b ∷ [])).state) × (reported is 0 [] ≡ (feed table s (b ∷ [])).items)
  one_turn s {next = next} b next_is a_is back_is none is same going =
      let fed = fed_on s (b ∷ []) {left = []} refl refl next_is a_is back_is (rw none) going in
      (rw (fed.state, feed-nil f next), rw (fed.items, feed-nil f next, same))

  pub fed_empty : (s : S) (q : List ℕ) {o : Option ℕ} → o ≡ front q → o ≡ None → feed table s q ≡ record { state = s; items = [] }
  fed_empty s [] o_is none = feed-nil f s
  fed_empty s (b ∷ q) o_is none = absurd (cc)
