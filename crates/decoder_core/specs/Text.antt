-- The text and the error places of items.
use Rattle.std.specs.Prelude.{ℕ, List, [], ◌∷◌, flat_map}
use Rattle.enc_names.specs.declared.place.Place.{Place}
use Rattle.decoder_core.specs.declared.{item.Item.Item, item.Item.TheVariants.One, item.Item.TheVariants.Two, item.Item.TheVariants.Error, placed.Placed.Placed}

-- the code points of an item; an error is U+FFFD (Encoding Standard, "process an item", error mode "replacement")
abbrev pub item_code_points : Item → List ℕ
item_code_points (One c) = c ∷ []
item_code_points (Two a b) = a ∷ b ∷ []
item_code_points Error = 0xFFFD ∷ []

abbrev pub code_points : List Placed → List ℕ
code_points ps = flat_map (λ (p : Placed). item_code_points p.item) ps

-- the place, if the item is an error
abbrev pub error_place : Item → Place → List Place
error_place (One c) place = []
error_place (Two a b) place = []
error_place Error place = place ∷ []

abbrev pub error_places : List Placed → List Place
error_places ps = flat_map (λ (p : Placed). error_place p.item (record { from = p.from; to = p.to })) ps
