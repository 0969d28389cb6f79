-- Replacing a range of a document's text by given bytes.
use Rattle.std.specs.Prelude.{ℕ, List, Option}
use Rattle.index_loader.specs.Files.{Files}
use Rattle.position_map.specs.{declared.position.Range.Range, declared.unit.Unit.Unit as TextUnit, Plan.Given}
use Rattle.desk.specs.{Change.alone, Change.change_leaves, Change.change_reply, Change.substituted, Documents.Entry, Edits.edited, Effects.Effect}

-- as a change of the range by the text, with these bytes instead of the encoder's
abbrev pub replace_effect : Files → ℕ → TextUnit → Option Range → List ℕ → List ℕ → Entry → Effect
replace_effect indexes rev unit range text bytes = edited indexes rev (λ d. alone (substituted unit range text (Given bytes) d)) change_leaves change_reply
