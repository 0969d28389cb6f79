-- The items of a piece.
use Rattle.std.specs.Prelude.{ℕ, ℤ, ◌+◌, ◌-◌, Bool, true, false, List, [], ◌∷◌, Option, Some, None, option_map, nat_lt, if◌then◌else◌}
use lib.Signed.{le_z}
use Rattle.lane_ascii.specs.Marks.{one_if}
use Rattle.decoder_core.specs.declared.item.Item.{Item, TheVariants.One, TheVariants.Two, TheVariants.Error}
use Rattle.iso2022jp.specs.declared.output.OutputState.{OutputState}
use Rattle.state_memo.specs.declared.ended.Ended.{Ended}

abbrev pub scalar_count : Item → ℕ
scalar_count (One c) = 1
scalar_count (Two a b) = 2
scalar_count Error = 1

abbrev pub is_an_error : Item → Bool
is_an_error (One c) = false
is_an_error (Two a b) = false
is_an_error Error = true

-- an item as a piece keeps it
abbrev pub kept_item : Item → ℤ → OutputState → Ended
kept_item item end output = record { scalars = scalar_count item; end = end; error = is_an_error item; output = output }

-- how many of the items are errors
abbrev pub errors_in : List Ended → ℕ
errors_in [] = 0
errors_in (e ∷ es) = one_if e.error + errors_in es

-- how many code points the items have
abbrev pub all_scalars : List Ended → ℕ
all_scalars [] = 0
all_scalars (e ∷ es) = e.scalars + all_scalars es

-- how many code points the items have that end at or before a place
abbrev pub scalars_before : ℤ → List Ended → ℕ
scalars_before limit [] = 0
scalars_before limit (e ∷ es) = (if le_z e.end limit then e.scalars else 0) + scalars_before limit es

-- the number of the item that has code point n
abbrev pub item_of : List Ended → ℕ → Option ℕ
item_of [] n = None
item_of (e ∷ es) n = if nat_lt n e.scalars then Some 0 else option_map (λ k. k + 1) (item_of es (n - e.scalars))
