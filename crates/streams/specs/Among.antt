-- A decoder whose states are among those of the one decoder.
use Rattle.std.specs.Prelude.{◌≡◌, ℕ, Option}
use Rattle.decoder_core.specs.{Lift.lift, Queue.Table}
use Rattle.codec.specs.{declared.state.AnyState.AnyState, Any.AnyDecoding, Any.any}

-- By `named` each of its states is named as one state of the one decoder, which does there what this one does and is then in a state so named.
pub record IsAmong {S : Type 0} (d : AnyDecoding) (small : Table S) (named : S → AnyState → Type 0) : Type 0 where
  pub total : (s : S) → (t : AnyState) × named s t
  pub single : (s : S) (t u : AnyState) → named s t → named s u → t ≡ u
  pub lifted : (s : S) (o : Option ℕ) (t u : AnyState) → named s t → named (small s o).state u → any d t o ≡ lift (λ _. u) (small s o)
