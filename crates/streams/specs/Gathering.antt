-- The gathering of the text of a part of a stream, item by item.
use Rattle.std.specs.Prelude.{ℕ, ◌+◌, ℤ, pos, ◌-ℤ◌, Bool, true, false, ◌&&◌, List, [], ◌∷◌, ◌++◌, if◌then◌else◌}
use Rattle.std.specs.Str.{encode_utf8_all}
use Rattle.decoder_core.specs.declared.item.{Item.Item, Item.TheVariants.Error, Ended.Ended}
use Rattle.decoder_core.specs.{Shown.Shown, Text.item_code_points}

-- The text so far in UTF-8; whether an error stops it; the end of the last item, counted from the start of the part; and whether an error has
-- stopped it, with the end of that error; and the number of errors that didn't.
pub record Gathered : Type 0 where
  pub text : List ℕ
  pub strict : Bool
  pub end : ℤ
  pub stopped : Bool
  pub stop : ℤ
  pub errors : ℕ

abbrev pub is_error : Item → Bool
is_error Error = true
is_error item = false

-- the number of errors, with an item
abbrev pub with_error : Item → ℕ → ℕ
with_error Error n = n + 1
with_error item n = n

-- an error at which the text stops
abbrev pub stopped_at : ℤ → Gathered → Gathered
stopped_at end g = record { text = g.text; strict = g.strict; end = g.end; stopped = true; stop = end; errors = g.errors }

-- more text, which ends there, with this number of errors
abbrev pub with_more : List ℕ → ℤ → ℕ → Gathered → Gathered
with_more text end n g = record { text = g.text ++ text; strict = g.strict; end = end; stopped = g.stopped; stop = g.stop; errors = n }

abbrev pub with_text : List ℕ → ℤ → Gathered → Gathered
with_text text end g = with_more text end g.errors g

-- one more item: nothing after an error that stopped the text
abbrev pub with_item : Gathered → Item → ℤ → Gathered
with_item g item end =
    if g.stopped then g
    else if g.strict && is_error item then stopped_at end g
    else with_more (encode_utf8_all (item_code_points item)) end (with_error item g.errors) g

abbrev pub with_shown : {S : Type 0} → Gathered → Shown S → Gathered
with_shown g shown = with_item g shown.item shown.end

-- one more item of a feed or a run, of whose bytes `read` were read
abbrev pub with_ended : ℕ → Gathered → Ended → Gathered
with_ended read g e = with_item g e.item (pos read -ℤ pos e.back)

-- the items whose text is kept: all, or those before the first error where one stops it
abbrev pub kept : Bool → List Ended → List Ended
kept strict [] = []
kept strict (e ∷ es) = if strict && is_error e.item then [] else e ∷ kept strict es

-- whether an error stops them
abbrev pub stops : Bool → List Ended → Bool
stops strict [] = false
stops strict (e ∷ es) = if strict && is_error e.item then true else stops strict es

-- the number of errors, with those of items
abbrev pub with_errors : ℕ → List Ended → ℕ
with_errors n [] = n
with_errors n (e ∷ es) = with_errors (with_error e.item n) es
