-- Proofs that a trait asks for; there is nothing to believe here. Why the replacement decoder's turns end, and how few items a step gives.
use Rattle.std.proofs.Common.{◌≡◌, ◌≢◌, ℕ, ◌+◌, ◌*◌, ◌<◌, ◌≤◌, List, [], ◌∷◌, length, Option, Some, None, arith, refl, lit<, lit≤}
use Rattle.decoder_core.specs.declared.handler.Answer.TheVariants.{Finished}
use Rattle.decoder_core.specs.declared.replacement.ReplacementState.{ReplacementState, TheVariants.Unread, TheVariants.ErrorReturned, TheVariants.Done}
use Rattle.decoder_core.specs.{Queue.Falls, Queue.turn_at, Queue.queue_after, Counts.Counts, Counts.cost, Replacement.replacement}

pub falls_at : (s : ReplacementState) (q : List ℕ) → (turn_at replacement s q).answer ≢ Finished
    → 8 * length (queue_after replacement s q) + 0 < 8 * length q + 0
falls_at s [] going = absurd (going refl)
falls_at Unread (b ∷ q) going = Prim.omega arith
falls_at ErrorReturned (b ∷ q) going = absurd (going refl)
falls_at Done (b ∷ q) going = absurd (going refl)

-- finished before the end, it stays so
pub stays_at : (s : ReplacementState) (b : ℕ) → (replacement s (Some b)).answer ≡ Finished → (o : Option ℕ)
    → ((replacement (replacement s (Some b)).state o).answer ≡ Finished)
    × ((replacement (replacement s (Some b)).state o).state ≡ (replacement s (Some b)).state)
stays_at Unread b finished o = absurd Prim.cc
stays_at ErrorReturned b finished None = (refl, refl)
stays_at ErrorReturned b finished (Some c) = (refl, refl)
stays_at Done b finished None = (refl, refl)
stays_at Done b finished (Some c) = (refl, refl)

abbrev pub replacement_falls : Falls replacement
replacement_falls = record { held = λ _. 0; small = λ _. lit< tt; falls = falls_at; stays = stays_at }

pub costs_at : (s : ReplacementState) (q : List ℕ)
    → length (queue_after replacement s q) + 0 + cost (turn_at replacement s q).answer ≤ length q + 0
costs_at s [] = lit≤ tt
costs_at Unread (b ∷ q) = Prim.omega arith
costs_at ErrorReturned (b ∷ q) = Prim.omega arith
costs_at Done (b ∷ q) = Prim.omega arith

abbrev pub replacement_counts : Counts replacement
replacement_counts = record { bytes = λ _. 0; few = λ _. lit≤ tt; costs = costs_at }
