-- The laws of runs, for every table with falling weight.
use Rattle.std.proofs.Common.{◌≡◌, ◌≢◌, ℕ, zero, suc, ◌+◌, ◌*◌, ◌<◌, List, [], ◌∷◌, ◌++◌, length, Some, refl, sym, ap, ◌∙◌, arith, append_assoc, length-append}
use Rattle.decoder_core.proofs.Prelude.{Ended, Answer, Nothing, Gives, Finished, Runs, Fed, Falls, front, turn_at, queue_after, reported, turns, run, fed_after}
use Rattle.decoder_core.proofs.Prelude.{feed_for, feed, further, finished, nothing}
use Rattle.decoder_core.specs.Queue.{Table, gives}

-- ---- one answer

reported-same : (a : Answer) (left : ℕ) (x y : List Ended) → (a ≢ Finished → x ≡ y) → reported a left x ≡ reported a left y
reported-same Nothing left x y same = same (λ e. cc)
reported-same (Gives i) left x y same = ap (λ (out : List Ended). record { item = i; back = left } ∷ out) (same (λ e. cc))
reported-same Finished left x y same = refl

fed-same : {S : Type 0} (a : Answer) (left : ℕ) (next : S) (x y : Fed S) → (a ≢ Finished → x ≡ y) → fed_after a left next x ≡ fed_after a left next y
fed-same Nothing left next x y same = same (λ e. cc)
fed-same (Gives i) left next x y same = ap (λ (f : Fed _). fed_after (Gives i) left next f) (same (λ e. cc))
fed-same Finished left next x y same = refl

-- what two feeds in a row do: n bytes are after the first
abbrev pub joined : {S : Type 0} → ℕ → Fed S → (S → Fed S) → Fed S
joined n x then = record { state = (then x.state).state; items = further n x.items ++ (then x.state).items }

fed-joined : {S : Type 0} (a : Answer) (left n : ℕ) (next : S) (x y : Fed S) (then : S → Fed S) → (a ≢ Finished → y ≡ joined n x then)
    → (a ≡ Finished → then next ≡ record { state = next; items = [] }) → fed_after a (left + n) next y ≡ joined n (fed_after a left next x) then
fed-joined Nothing left n next x y then going over = going (λ e. cc)
fed-joined (Gives i) left n next x y then going over = rw (going (λ e. cc))
fed-joined Finished left n next x y then going over = rw (over refl)

reported-joined : {S : Type 0} (a : Answer) (left n : ℕ) (next : S) (x : Fed S) (out : List Ended) (then : S → List Ended)
    → (a ≢ Finished → out ≡ further n x.items ++ then x.state) → (a ≡ Finished → then next ≡ [])
    → reported a (left + n) out ≡ further n (fed_after a left next x).items ++ then (fed_after a left next x).state
reported-joined Nothing left n next x out then going over = going (λ e. cc)
reported-joined (Gives i) left n next x out then going over = rw (going (λ e. cc))
reported-joined Finished left n next x out then going over = sym (over refl)

pub fed_items-reported : {S : Type 0} (a : Answer) (left : ℕ) (next : S) (x : Fed S) → (fed_after a left next x).items ≡ reported a left x.items
fed_items-reported Nothing left next x = refl
fed_items-reported (Gives i) left next x = refl
fed_items-reported Finished left next x = refl

pub fed_state-on : {S : Type 0} (a : Answer) (left : ℕ) (next : S) (x : Fed S) → a ≢ Finished → (fed_after a left next x).state ≡ x.state
fed_state-on Nothing left next x going = refl
fed_state-on (Gives i) left next x going = refl
fed_state-on Finished left next x going = absurd (going refl)

module _ {S : Type 0} {table : Table S} (f : Falls table) where
  -- ---- the number of turns

  turns-enough : (n m : ℕ) (s : S) (q : List ℕ) → 8 * length q + f.held s < n → 8 * length q + f.held s < m → turns table n s q ≡ turns table m s q
  unfolding turns
  turns-enough zero m s q less _ = absurd (omega arith)
  turns-enough (suc n) zero s q _ less = absurd (omega arith)
  turns-enough (suc n) (suc m) s q below_n below_m =
      reported-same (turn_at table s q).answer _ _ _
      (λ going. let fall = f.falls s q going in turns-enough n m (turn_at table s q).state (queue_after table s q) (omega arith) (omega arith))

  pub run-turn : (s : S) (q : List ℕ)
      → run table s q ≡ reported (turn_at table s q).answer (length (queue_after table s q)) (run table (turn_at table s q).state (queue_after table s q))
  unfolding run turns
  run-turn s q =
      let one : 8 * length q + 32 ≡ suc (8 * length q + 31) = omega arith in
      let here = f.small s in
      let there = f.small (turn_at table s q).state in
      rw one (reported-same (turn_at table s q).answer _ _ _
      (λ going. let fall = f.falls s q going in turns-enough _ _ (turn_at table s q).state (queue_after table s q) (omega arith) (omega arith)))

  -- a run whose first turn has this answer
  run-as : (s : S) (q : List ℕ) (a : Answer) → (turn_at table s q).answer ≡ a
      → run table s q ≡ reported a (length (queue_after table s q)) (run table (turn_at table s q).state (queue_after table s q))
  run-as s q a is = rw (run-turn s q, is)

  -- ---- the function and the relation

  runs-on : (s : S) (q : List ℕ) (out : List Ended) (a : Answer) → (turn_at table s q).answer ≡ a
      → (a ≢ Finished → Runs table (turn_at table s q).state (queue_after table s q) out)
      → Runs table s q (reported a (length (queue_after table s q)) out)
  runs-on s q out Nothing is later = nothing is (later (λ e. cc))
  runs-on s q out (Gives i) is later = gives is (later (λ e. cc))
  runs-on s q out Finished is later = finished is

  run_is-within : (n : ℕ) (s : S) (q : List ℕ) → 8 * length q + f.held s < n → Runs table s q (run table s q)
  run_is-within zero s q less = absurd (omega arith)
  run_is-within (suc n) s q less =
      rw (run-turn s q) (runs-on s q _ (turn_at table s q).answer refl
      (λ going. let fall = f.falls s q going in run_is-within n (turn_at table s q).state (queue_after table s q) (omega arith)))

  pub run_is : (s : S) (q : List ℕ) → Runs table s q (run table s q)
  run_is s q = run_is-within (suc (8 * length q + f.held s)) s q (omega arith)

  pub run_only : {s : S} {q : List ℕ} {out : List Ended} → Runs table s q out → out ≡ run table s q
  run_only {s = s} {q = q} (finished is) = sym (run-as s q Finished is)
  run_only {s = s} {q = q} (nothing is later) = run_only later ∙ sym (run-as s q Nothing is)
  run_only {s = s} {q = q} (gives {i = i} is later) = rw (run_only later) (sym (run-as s q (Gives i) is))

  -- ---- feeding

  feed-enough : (n m : ℕ) (s : S) (q : List ℕ) → 8 * length q + f.held s < n → 8 * length q + f.held s < m → feed_for table n s q ≡ feed_for table m s q
  unfolding feed_for
  feed-enough zero m s q less _ = absurd (omega arith)
  feed-enough (suc n) zero s q _ less = absurd (omega arith)
  feed-enough (suc n) (suc m) s [] below_n below_m = refl
  feed-enough (suc n) (suc m) s (b ∷ q) below_n below_m =
      fed-same (table s (Some b)).answer _ _ _ _
      (λ going. let fall = f.falls s (b ∷ q) going in feed-enough n m (table s (Some b)).state (queue_after table s (b ∷ q)) (omega arith) (omega arith))

  pub feed-nil : (s : S) → feed table s [] ≡ record { state = s; items = [] }
  unfolding feed feed_for
  feed-nil s = refl

  pub none-fed : (s : S) → (feed table s []).state ≡ s
  none-fed s = rw (feed-nil s)

  pub feed-turn : (s : S) (b : ℕ) (q : List ℕ)
      → feed table s (b ∷ q)
      ≡ fed_after (table s (Some b)).answer (length (queue_after table s (b ∷ q))) (table s (Some b)).state
      (feed table (table s (Some b)).state (queue_after table s (b ∷ q)))
  unfolding feed feed_for
  feed-turn s b q =
      let one : 8 * length (b ∷ q) + 32 ≡ suc (8 * length (b ∷ q) + 31) = omega arith in
      let here = f.small s in
      let there = f.small (table s (Some b)).state in
      rw one (fed-same (table s (Some b)).answer _ _ _ _
      (λ going. let fall = f.falls s (b ∷ q) going in feed-enough _ _ (table s (Some b)).state (queue_after table s (b ∷ q)) (omega arith) (omega arith)))

  -- ---- a decoder that is finished before the end

  pub done-run : (s : S) (b : ℕ) → (table s (Some b)).answer ≡ Finished → (q : List ℕ) → run table (table s (Some b)).state q ≡ []
  done-run s b is q = run-as (table s (Some b)).state q Finished (f.stays s b is (front q)).0

  feed-over : (s : S) (b : ℕ) (q : List ℕ) → (table s (Some b)).answer ≡ Finished
      → feed table s (b ∷ q) ≡ record { state = (table s (Some b)).state; items = [] }
  feed-over s b q over = rw (feed-turn s b q, over)

  pub done-feed : (s : S) (b : ℕ) → (table s (Some b)).answer ≡ Finished → (q : List ℕ)
      → feed table (table s (Some b)).state q ≡ record { state = (table s (Some b)).state; items = [] }
  done-feed s b is [] = feed-nil (table s (Some b)).state
  done-feed s b is (c ∷ q) = let stays = f.stays s b is (Some c) in rw (feed-over (table s (Some b)).state c q stays.0, stays.1)

  -- ---- two queues in a row

  -- the queue after a turn, where more bytes are after the queue
  behind-more : (s : S) (b : ℕ) (q rest : List ℕ) → queue_after table s (b ∷ (q ++ rest)) ≡ queue_after table s (b ∷ q) ++ rest
  behind-more s b q rest = sym (append_assoc (table s (Some b)).back q rest)

  feed-append-within : (n : ℕ) (s : S) (q rest : List ℕ) → 8 * length q + f.held s < n
      → feed table s (q ++ rest) ≡ joined (length rest) (feed table s q) (λ (t : S). feed table t rest)
  feed-append-within zero s q rest less = absurd (omega arith)
  feed-append-within (suc n) s [] rest less = rw (feed-nil s)
  feed-append-within (suc n) s (b ∷ q) rest less =
      let left = queue_after table s (b ∷ q) in
      rw (feed-turn s b (q ++ rest), feed-turn s b q, behind-more s b q rest, length-append left rest)
      (fed-joined (table s (Some b)).answer _ _ _ _ _ (λ (t : S). feed table t rest)
      (λ going. let fall = f.falls s (b ∷ q) going in feed-append-within n (table s (Some b)).state left rest (omega arith))
      (λ over. done-feed s b over rest))

  pub feed-append : (s : S) (q rest : List ℕ) → feed table s (q ++ rest) ≡ joined (length rest) (feed table s q) (λ (t : S). feed table t rest)
  feed-append s q rest = feed-append-within (suc (8 * length q + f.held s)) s q rest (omega arith)

  run_feed-within : (n : ℕ) (s : S) (q rest : List ℕ) → 8 * length q + f.held s < n
      → run table s (q ++ rest) ≡ further (length rest) (feed table s q).items ++ run table (feed table s q).state rest
  run_feed-within zero s q rest less = absurd (omega arith)
  run_feed-within (suc n) s [] rest less = rw (feed-nil s)
  run_feed-within (suc n) s (b ∷ q) rest less =
      let left = queue_after table s (b ∷ q) in
      rw (run-turn s (b ∷ (q ++ rest)), feed-turn s b q, behind-more s b q rest, length-append left rest)
      (reported-joined (table s (Some b)).answer _ _ _ _ _ (λ (t : S). run table t rest)
      (λ going. let fall = f.falls s (b ∷ q) going in run_feed-within n (table s (Some b)).state left rest (omega arith))
      (λ over. done-run s b over rest))

  pub run_feed : (s : S) (q rest : List ℕ)
      → run table s (q ++ rest) ≡ further (length rest) (feed table s q).items ++ run table (feed table s q).state rest
  run_feed s q rest = run_feed-within (suc (8 * length q + f.held s)) s q rest (omega arith)
