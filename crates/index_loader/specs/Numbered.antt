-- Lines of a file, read one after another by their numbers until one of them is faulty.
use Rattle.std.specs.Prelude.{◌≡◌, ℕ, Bool, true, false, List, fold, Result, Ok, Err}
use Rattle.std.specs.List.{enumerate_from}

-- one more line, added to what the previous lines hold; the fault of a previous line stays
abbrev pub beside_line : {A F : Type 0} → (ℕ → A → List ℕ → Result A F) → Result A F → ℕ × List ℕ → Result A F
beside_line reading (Err fault) line = Err fault
beside_line reading (Ok above) line = reading line.0 above line.1

-- what the lines above and these hold, of which the first has this number, or the fault of the first faulty line
abbrev pub read_from : {A F : Type 0} → (ℕ → A → List ℕ → Result A F) → Result A F → ℕ → List (List ℕ) → Result A F
read_from reading above number lines = fold (beside_line reading) above (enumerate_from number lines)

-- the fault, of this line, is the first of the lines that were read; or memory was refused, which no line is to blame for
abbrev pub FaultIs : {A F : Type 0} → Bool → ℕ → F → Result A F → Type 0
FaultIs true line fault parsed = line ≡ 0
FaultIs false line fault parsed = parsed ≡ Err fault
