-- Items in runs: those of a run are of one kind, and each ends equally many bytes after the one before it.
use Rattle.std.specs.Prelude.{ℕ, zero, suc, ℤ, pos, ◌-ℤ◌, Bool, true, false, List, [], ◌∷◌, ◌++◌, flat_map, Option, Some, None}
use Rattle.iso2022jp.specs.declared.output.OutputState.{OutputState}
use Rattle.iso2022jp.specs.declared.output.OutputState.TheVariants as output
use Rattle.state_memo.specs.declared.{ended.Ended.Ended, kind.ItemKind.ItemKind}
use Rattle.state_memo.specs.declared.kind.ItemKind.TheVariants.{AsciiTwo, AsciiError, RomanOne, RomanTwo, RomanError, KatakanaOne, KatakanaTwo, KatakanaError}
use Rattle.state_memo.specs.declared.kind.ItemKind.TheVariants.{Jis0208One, Jis0208Two, Jis0208Error}
use Rattle.state_memo.specs.declared.run.Run.{Run}

-- the number of code points of an item of a kind
abbrev pub scalars_of : ItemKind → ℕ
scalars_of AsciiTwo = 2
scalars_of RomanTwo = 2
scalars_of KatakanaTwo = 2
scalars_of Jis0208Two = 2
scalars_of _ = 1

-- whether it is an error
abbrev pub error_of : ItemKind → Bool
error_of AsciiError = true
error_of RomanError = true
error_of KatakanaError = true
error_of Jis0208Error = true
error_of _ = false

-- the output state after it
abbrev pub output_in : ItemKind → OutputState
output_in RomanOne = output.Roman
output_in RomanTwo = output.Roman
output_in RomanError = output.Roman
output_in KatakanaOne = output.Katakana
output_in KatakanaTwo = output.Katakana
output_in KatakanaError = output.Katakana
output_in Jis0208One = output.Jis0208
output_in Jis0208Two = output.Jis0208
output_in Jis0208Error = output.Jis0208
output_in _ = output.Ascii

-- the item of a kind that ends here
abbrev pub item_of_kind : ItemKind → ℤ → Ended
item_of_kind kind end = record { scalars = scalars_of kind; end = end; error = error_of kind; output = output_in kind }

-- n items of a kind, `step` bytes apart, the last of which ends at `last`
abbrev pub items_until : ItemKind → ℕ → ℤ → ℕ → List Ended
items_until kind step last zero = []
items_until kind step last (suc n) = items_until kind step (last -ℤ pos step) n ++ item_of_kind kind last ∷ []

abbrev pub items_of_run : Run → List Ended
items_of_run r = items_until r.kind r.step r.last (suc r.more)

abbrev pub items_of_runs : List Run → List Ended
items_of_runs rs = flat_map items_of_run rs

-- the last run may still continue
abbrev pub items_of_last : Option Run → List Ended
items_of_last None = []
items_of_last (Some r) = items_of_run r

abbrev pub runs_of_last : Option Run → List Run
runs_of_last None = []
runs_of_last (Some r) = r ∷ []

abbrev pub items_under_way : List Run → Option Run → List Ended
items_under_way closed last = items_of_runs closed ++ items_of_last last
