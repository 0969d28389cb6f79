-- The output states that items remember.
use Rattle.std.specs.Prelude.{◌≡◌, ℕ, ◌+◌, List, [], ◌∷◌, take, All}
use Rattle.state_memo.specs.{declared.ended.Ended.Ended, declared.outcome.Outcome.Outcome, Decoding.OutputState, Decoding.output_behind}
use Rattle.piece_rope.specs.{Document.Document, Made.ends_at}

-- the output state of the decoder after the first bytes of a document, taken literally
abbrev pub output_at : Document → ℕ → OutputState
output_at d at = output_behind d.indexes d.setting (take at d.bytes)

-- in a piece that begins at byte `base` each item remembers the output state after its end
abbrev pub HasOutputs : Document → ℕ → List Ended → Type 0
HasOutputs d base es = All (λ (e : Ended). e.output ≡ output_at d (ends_at base e.end)) es

-- so it is in pieces in a row, the first of which begins at byte `base`
abbrev pub HaveOutputs : Document → ℕ → List Outcome → Type 0
HaveOutputs d base [] = Unit {0}
HaveOutputs d base (o ∷ os) = HasOutputs d base o.items × HaveOutputs d (base + o.sum.bytes) os
