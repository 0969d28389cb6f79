-- What steps give and what handlers put back: short lists, kept in storage of their own.
use Rattle.std.specs.Prelude.{ℕ, ◌≤◌, List, [], ◌∷◌, Option, Some, None, take}
use Rattle.decoder_core.specs.declared.few.Few.{Few}
use Rattle.decoder_core.specs.declared.few.Few.TheVariants as few
use Rattle.decoder_core.specs.declared.{item.Item.Item, item.Ended.Ended, items.Held.Held}
use Rattle.decoder_core.specs.declared.items.Held.TheVariants as held

-- the bytes that a handler puts back
abbrev pub bytes_of : Few → List ℕ
bytes_of few.Zero = []
bytes_of (few.One a) = a ∷ []
bytes_of (few.Two a b) = a ∷ b ∷ []
bytes_of (few.Three a b c) = a ∷ b ∷ c ∷ []
bytes_of (few.Four a b c d) = a ∷ b ∷ c ∷ d ∷ []

-- a step's one item, if it gives one, as the list of its items
abbrev pub alone : Option Item → List Ended
alone None = []
alone (Some i) = record { item = i; back = 0 } ∷ []

-- the storage of a step's items, as the list that it stands for
abbrev pub held_list : Held → List Ended
held_list held.Zero = []
held_list (held.One only) = only ∷ []
held_list (held.More many) = take many.len many.all

abbrev pub HeldFits : Held → Type 0
HeldFits held.Zero = Unit {0}
HeldFits (held.One only) = Unit {0}
HeldFits (held.More many) = many.len ≤ 8
