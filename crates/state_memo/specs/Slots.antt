-- The places for outcomes in a piece.
use Rattle.std.specs.Prelude.{◌≡◌, List, [], ◌∷◌, map}
use Rattle.state_memo.specs.{declared.slot.Slot.Slot, declared.slot.Slot.TheVariants.Free, declared.slot.Slot.TheVariants.Known as known, Memo.Known}

-- a place that has an outcome
abbrev pub filled : Known → Slot
filled k = known k.entry k.outcome

-- the outcomes in places
abbrev pub known_in : List Slot → List Known
known_in [] = []
known_in (Free ∷ slots) = known_in slots
known_in (known entry outcome ∷ slots) = record { entry = entry; outcome = outcome } ∷ known_in slots

-- none is free
abbrev pub AreFilled : List Slot → Type 0
AreFilled slots = slots ≡ map filled (known_in slots)
