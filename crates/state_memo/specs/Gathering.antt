-- Text and items under way.
use Rattle.std.specs.Prelude.{◌≡◌, ℕ, ℤ, pos, ◌-ℤ◌, ◌+ℤ◌, List, [], ◌∷◌, ◌++◌}
use Rattle.decoder_core.specs.declared.{bulk.Stride.Stride, item.Item.Item, item.Item.TheVariants.One}
use Rattle.decoder_core.specs.{declared.item.Ended.Ended as EndedItem, Bulk.width_of, Bulk.run_width, Shown.Shown, Text.item_code_points}
use Rattle.iso2022jp.specs.declared.output.OutputState.{OutputState}
use Rattle.state_memo.specs.{declared.ended.Ended.Ended, Items.kept_item}

pub record Gathered : Type 0 where
  pub text : List ℕ
  pub items : List Ended

-- no item yet
abbrev pub no_item : Gathered
no_item = record { text = []; items = [] }

-- one item more
abbrev pub with_item : Gathered → Item → ℤ → OutputState → Gathered
with_item g item end output = record {
  text = g.text ++ item_code_points item;
  items = g.items ++ kept_item item end output ∷ [];
}

-- the same of an item that a sink is shown; `output` gives the output state of a decoder's state
abbrev pub with_shown : {S : Type 0} → (S → OutputState) → Gathered → Shown S → Gathered
with_shown output g x = with_item g x.item x.end (output x.after)

-- an item of the end, whose end is counted from the end of the bytes
abbrev pub with_ended : OutputState → Gathered → EndedItem → Gathered
with_ended output g e = with_item g e.item (pos 0 -ℤ pos e.back) output

-- more text and its items
abbrev pub with_more : Gathered → List ℕ → List Ended → Gathered
with_more g text items = record { text = g.text ++ text; items = g.items ++ items }

-- items that are all of one length
abbrev pub IsEven : Stride → ℕ → List ℕ → Type 0
IsEven stride width [] = Unit {0}
IsEven stride width (c ∷ cs) = (width_of stride c ≡ width) × IsEven stride width cs

-- the items that are these code points, without gaps from the place `from` on
abbrev pub plain_items_from : Stride → ℤ → OutputState → List ℕ → List Ended
plain_items_from stride from output [] = []
plain_items_from stride from output (c ∷ cs) =
    kept_item (One c) (from +ℤ pos (width_of stride c)) output ∷ plain_items_from stride (from +ℤ pos (width_of stride c)) output cs

-- the same, where the last of them ends at `end`
abbrev pub plain_items : Stride → ℤ → OutputState → List ℕ → List Ended
plain_items stride end output cs = plain_items_from stride (end -ℤ pos (run_width stride cs)) output cs
