-- What the calls that read a label file answer, apart from a lack of memory.
use Rattle.std.specs.Prelude.{◌≡◌, ℕ, List, ◌++◌, Option, Some, None, option_map, Result, Ok, Err, ⊤}
use Rattle.enc_names.specs.declared.labels.LabelFault.{LabelFault, TheVariants.NotJson, TheVariants.BadShape, TheVariants.OutOfMemory}
use Rattle.enc_names.specs.{Labels.LabelTable, LabelFile.labels_of_file}

-- the labels or the fault of the file, or else memory ran out
abbrev pub AnswersFile : List ℕ → Result LabelTable LabelFault → Type 0
AnswersFile bytes (Err OutOfMemory) = Unit {0}
AnswersFile bytes answer = labels_of_file bytes ≡ answer

-- labels and then more
abbrev pub behind : LabelTable → Option LabelTable → Option LabelTable
behind old more = option_map (λ table. old ++ table) more

-- The labels are now those that were wanted, or the shape has none, or else memory ran out.
abbrev pub Gathers : Option LabelTable → Result ⊤ LabelFault → LabelTable → Type 0
Gathers wanted (Ok _) new = wanted ≡ Some new
Gathers wanted (Err NotJson) new = ⊥
Gathers wanted (Err BadShape) new = wanted ≡ None
Gathers wanted (Err OutOfMemory) new = Unit {0}
