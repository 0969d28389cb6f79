-- Proofs that a trait asks for; there is nothing to believe here. A decoder among several comes to an end, and gives as few items, as it does alone.
use Rattle.std.proofs.Common.{◌≡◌, ◌≢◌, refl, sym, ap, subst, ◌∙◌, ℕ, ◌+◌, ◌*◌, ◌<◌, ◌≤◌, List, [], ◌∷◌, ◌++◌, length, Option, Some, None, arith, lit<, lit≤}
use Rattle.decoder_core.specs.{declared.handler.Answer.TheVariants.Finished, Queue.Table, Queue.Falls, Queue.front, Queue.behind, Counts.Counts, Counts.cost}
use Rattle.codec.specs.Lifted.{lifted_at, lifted, finished}

abbrev pub amount_at : {S : Type 0} → (S → ℕ) → Option S → ℕ
amount_at amount (Some s) = amount s
amount_at amount None = 0

-- what a table's law says of a state, said of the state of many
abbrev pub amount_in : {S T : Type 0} → (T → Option S) → (S → ℕ) → T → ℕ
amount_in part amount t = amount_at amount (part t)

pub costs_none : (n : ℕ) (q : List ℕ) → n ≡ 0 → length (behind q) + n + 0 ≤ length q + 0
costs_none n [] e = Prim.omega (arith, e)
costs_none n (b ∷ q) e = Prim.omega (arith, e)

module _ {S T : Type 0} (own : S → T) (part : T → Option S) (found : (s : S) → part (own s) ≡ Some s) (small : Table S) where
  amount_own : (amount : S → ℕ) (s : S) → amount_in part amount (own s) ≡ amount s
  amount_own amount s = ap (amount_at amount) (found s)

  module _ (falls : Falls small) where
    pub small_at : (o : Option S) → amount_at falls.held o < 32
    small_at (Some s) = falls.small s
    small_at None = lit< tt

    pub falls_at : (t : T) (q : List ℕ) (o : Option S) → (lifted_at own small t (front q) o).answer ≢ Finished
        → 8 * length ((lifted_at own small t (front q) o).back ++ behind q) + amount_in part falls.held (lifted_at own small t (front q) o).state
        < 8 * length q + amount_at falls.held o
    falls_at t q (Some s) goes =
        let turn = small s (front q) in
        subst (λ (n : ℕ). 8 * length (turn.back ++ behind q) + n < 8 * length q + falls.held s)
        (sym (amount_own falls.held turn.state)) (falls.falls s q goes)
    falls_at t q None goes = absurd (goes refl)

    pub stays_at : (t : T) (b : ℕ) (o : Option S) → part t ≡ o → (lifted_at own small t (Some b) o).answer ≡ Finished → (r : Option ℕ)
        → ((lifted own part small (lifted_at own small t (Some b) o).state r).answer ≡ Finished)
        × ((lifted own part small (lifted_at own small t (Some b) o).state r).state ≡ (lifted_at own small t (Some b) o).state)
    stays_at t b (Some s) e done r =
        let next = (small s (Some b)).state in
        let after = falls.stays s b done r in (
          ap (λ (o : Option S). (lifted_at own small (own next) r o).answer) (found next) ∙ after.0,
          ap (λ (o : Option S). (lifted_at own small (own next) r o).state) (found next) ∙ ap own after.1,
        )
    stays_at t b None e done r = (
      ap (λ (o : Option S). (lifted_at own small t r o).answer) e,
      ap (λ (o : Option S). (lifted_at own small t r o).state) e,
    )

    abbrev pub falls_lifted : Falls (lifted own part small)
    falls_lifted = record {
      held = amount_in part falls.held;
      small = λ t. small_at (part t);
      falls = λ t q. falls_at t q (part t);
      stays = λ t b. stays_at t b (part t) refl;
    }

  module _ (counts : Counts small) where
    pub few_at : (o : Option S) → amount_at counts.bytes o ≤ 7
    few_at (Some s) = counts.few s
    few_at None = lit≤ tt

    pub costs_at : (t : T) (q : List ℕ) (o : Option S) → part t ≡ o
        → length ((lifted_at own small t (front q) o).back ++ behind q) + amount_in part counts.bytes
        (lifted_at own small t (front q) o).state + cost (lifted_at own small t (front q) o).answer
        ≤ length q + amount_at counts.bytes o
    costs_at t q (Some s) e =
        let turn = small s (front q) in
        subst (λ (n : ℕ). length (turn.back ++ behind q) + n + cost turn.answer ≤ length q + counts.bytes s)
        (sym (amount_own counts.bytes turn.state)) (counts.costs s q)
    costs_at t q None e = costs_none (amount_in part counts.bytes t) q (ap (amount_at counts.bytes) e)

    abbrev pub counts_lifted : Counts (lifted own part small)
    counts_lifted = record {
      bytes = amount_in part counts.bytes;
      few = λ t. few_at (part t);
      costs = λ t q. costs_at t q (part t) refl;
    }

-- a decoder with no state of its own
abbrev pub falls_finished : {T : Type 0} → Falls (finished {T = T})
falls_finished = record { held = λ _. 0; small = λ _. lit< tt; falls = λ s q goes. absurd (goes refl); stays = λ s b done r. (refl, refl) }

abbrev pub counts_finished : {T : Type 0} → Counts (finished {T = T})
counts_finished = record { bytes = λ _. 0; few = λ _. lit≤ tt; costs = λ s q. costs_none 0 q refl }
