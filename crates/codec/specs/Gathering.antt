-- The gathering of text and errors, item by item.
use Rattle.std.specs.Prelude.{ℕ, ℤ, pos, ◌+ℤ◌, ◌-ℤ◌, List, ◌++◌}
use Rattle.std.specs.{Int.saturate_unsigned, Int.w64, Str.encode_utf8_all}
use Rattle.enc_names.specs.declared.place.Place.{Place}
use Rattle.decoder_core.specs.{declared.item.Item.Item, declared.item.Ended.Ended, Shown.Shown, Text.item_code_points, Text.error_place}

-- the UTF-8 bytes written so far, and how many more can be written before memory is asked for
pub record WrittenText : Type 0 where
  pub bytes : List ℕ
  pub room : ℕ

-- the text so far in UTF-8, and the places of the errors so far among all the bytes. It has the number of bytes before those that are
-- decoded, and the end of the last item, counted from the first decoded byte
pub record GatheredText : Type 0 where
  pub text : List ℕ
  pub errors : List Place
  pub base : ℕ
  pub end : ℤ

-- an end among all the bytes
abbrev pub index_of : ℕ → ℤ → ℕ
index_of base end = saturate_unsigned w64 (pos base +ℤ end)

-- with one more item
abbrev pub with_item : GatheredText → Item → ℤ → GatheredText
with_item g item end = record {
  text = g.text ++ encode_utf8_all (item_code_points item);
  errors = g.errors ++ error_place item (record { from = index_of g.base g.end; to = index_of g.base end });
  base = g.base;
  end = end;
}

abbrev pub with_shown : {S : Type 0} → GatheredText → Shown S → GatheredText
with_shown g shown = with_item g shown.item shown.end

-- with one more item of a run, of whose bytes `read` were read
abbrev pub with_ended : ℕ → GatheredText → Ended → GatheredText
with_ended read g e = with_item g e.item (pos read -ℤ pos e.back)
