-- Where errors are found in a stream, item by item.
use Rattle.std.specs.Prelude.{false, ◌==◌, ◌&&◌, ℕ, nat_lt, ℤ, pos, ◌+ℤ◌, ◌-ℤ◌, List, [], ◌∷◌, ◌++◌, length, if◌then◌else◌}
use Rattle.std.specs.Int.{saturate_unsigned, w64}
use Rattle.lane_ascii.specs.Marks.{marks}
use Rattle.decoder_core.specs.declared.item.{Item.Item, Item.TheVariants.Error, Ended.Ended}
use Rattle.decoder_core.specs.{declared.placed.Placed.Placed, Shown.Shown, Text.item_code_points}
use Rattle.streams.specs.declared.{counts.Counts.Counts, row.Found.Found}
use Rattle.streams.specs.Counting.{column_on, counted}

-- ---- by the definition

-- an item's error, if it is one
abbrev pub found_if : Item → Found → List Found
found_if Error f = f ∷ []
found_if item f = []

-- an error of these bytes, after this text: the line ends of the text before it, and its code points after the last of them
abbrev pub found_after : List ℕ → ℕ → ℕ → Found
found_after before from to = record { place = record { from = from; to = to }; line = marks false before; character = column_on 0 before }

-- the errors among items that follow this text
abbrev pub found_among : List ℕ → List Placed → List Found
found_among before [] = []
found_among before (p ∷ ps) = found_if p.item (found_after before p.from p.to) ++ found_among (before ++ item_code_points p.item) ps

-- the same errors, where the first item of all begins at this place: an error before which there is no text
abbrev pub marked : ℕ → List Found → List Found
marked from [] = []
marked from (f ∷ fs) =
    (if (f.line == 0) && (f.character == 0)
    then record { place = record { from = from; to = f.place.to }; line = f.line; character = f.character }
    else f) ∷ fs

-- ---- as they are gathered

-- The number of bytes before the part, the end of the last item, the numbers of the text before, how many errors are asked for, and the first
-- of them.
pub record Places : Type 0 where
  pub base : ℕ
  pub from : ℕ
  pub counts : Counts
  pub most : ℕ
  pub found : List Found

-- a part begins
abbrev pub begun_at : ℕ → ℕ → Counts → Places → Places
begun_at base from counts p = record { base = base; from = from; counts = counts; most = p.most; found = p.found }

-- an item's error more, if it is one and fewer are there than are asked for
abbrev pub with_found : Item → ℕ → List Found → Found → List Found
with_found Error most found f = if nat_lt (length found) most then found ++ f ∷ [] else found
with_found item most found f = found

-- an item more, which ends `end` bytes after the part's start
abbrev pub with_item : Places → Item → ℤ → Places
with_item p item end =
    let to = saturate_unsigned w64 (pos p.base +ℤ end) in
    record {
      base = p.base;
      from = to;
      counts = counted p.counts (item_code_points item);
      most = p.most;
      found = with_found item p.most p.found (record { place = record { from = p.from; to = to }; line = p.counts.lines; character = p.counts.column });
    }

abbrev pub with_shown : {S : Type 0} → Places → Shown S → Places
with_shown p shown = with_item p shown.item shown.end

-- an item more of a feed or a run, of whose bytes `read` were read
abbrev pub with_ended : ℕ → Places → Ended → Places
with_ended read p e = with_item p e.item (pos read -ℤ pos e.back)
