-- A decoder whose states are among those of the one decoder.
use Rattle.std.specs.Prelude.{◌≡◌, ℕ, Option}
use Rattle.decoder_core.specs.{Lift.lift, Queue.Table}
use Rattle.iso2022jp.specs.declared.output.OutputState.{OutputState}
use Rattle.codec.specs.{declared.state.AnyState.AnyState, Any.AnyDecoding, Any.any, Any.output_of}

-- By `named` each of its states is named as one state of the one decoder. That decoder does there what this one does, and is then in a
-- state so named; their output states are the same.
pub record IsAmong {S : Type 0} (d : AnyDecoding) (small : Table S) (output : S → OutputState) (named : S → AnyState → Type 0) : Type 0 where
  pub total : (s : S) → (t : AnyState) × named s t
  pub single : (s : S) (t u : AnyState) → named s t → named s u → t ≡ u
  pub lifted : (s : S) (o : Option ℕ) (t u : AnyState) → named s t → named (small s o).state u → any d t o ≡ lift (λ _. u) (small s o)
  pub outputs : (s : S) (t : AnyState) → named s t → output s ≡ output_of t
