-- A scan for lone surrogates, unit by unit.
use Rattle.std.specs.Prelude.{◌≡◌, ℕ, ◌+◌, ◌-◌, Bool, true, false, List, [], ◌∷◌, Option, Some, None, if◌then◌else◌}
use Rattle.lane_utf.specs.Utf16.{is_lead, is_trail}

-- the first lone surrogate from the unit at the index on; pending says that the unit before it is a lead
abbrev pub lone_from : Bool → ℕ → List ℕ → Option ℕ
lone_from true at [] = Some (at - 1)
lone_from false at [] = None
lone_from true at (u ∷ us) = if is_trail u then lone_from (is_lead u) (at + 1) us else Some (at - 1)
lone_from false at (u ∷ us) = if is_trail u then Some at else lone_from (is_lead u) (at + 1) us

-- each unit is a trail of a pair exactly if the one before it is a lead; the flag says whether a lead precedes
abbrev pub Matched : Bool → List ℕ → Type 0
Matched after_lead [] = Unit {0}
Matched after_lead (u ∷ us) = (is_trail u ≡ after_lead) × Matched (is_lead u) us
