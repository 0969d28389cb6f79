-- What a search by sums finds.
use Rattle.std.specs.Prelude.{ℕ, List, Option}
use Rattle.piece_rope.specs.{Search.IsFound, Search.Axis, Search.measure, Outcomes.Outcome, Outcomes.Sum, Outcomes.no_sum, Outcomes.joined}

abbrev pub sum_in_outcome : Outcome → Sum
sum_in_outcome o = o.sum

abbrev pub errors_in_sum : Sum → ℕ
errors_in_sum s = s.errors

-- the outcome after which the measure is above the target, or none, and the sum of those before it
abbrev pub IsFoundBy : (Sum → ℕ) → ℕ → List Outcome → Sum → Option Outcome → Type 0
IsFoundBy measured target os s x = IsFound measured target no_sum joined sum_in_outcome os s x

abbrev pub IsFoundOutcome : Axis → ℕ → List Outcome → Sum → Option Outcome → Type 0
IsFoundOutcome axis target os s x = IsFoundBy (measure axis) target os s x
