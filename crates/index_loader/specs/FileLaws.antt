-- What a reading of an index file means: which lines hold which pairs, and which line is the first faulty one.
use Rattle.std.specs.Prelude.{◌≡◌, ℕ, ◌+◌, ◌<◌, ◌⊎◌, List, [], length, slice_index_or, Option, Some, Result, Ok, Err, IsTrue, All, Contains, ◌↔◌}
use Rattle.std.specs.Char.{IsScalar}
use Rattle.index_loader.specs.declared.fault.{IndexCause.IndexCause, IndexCause.TheVariants.DuplicatePointer, IndexFault.IndexFault}
use Rattle.index_loader.specs.{declared.kind.IndexKind.IndexKind, Lines.allows, Lines.pair_on, Pairs.Pairs, Rows.IsRising}

-- what the line at this place holds, counted from 0
abbrev pub reading_at : IndexKind → List (List ℕ) → ℕ → Result (Option (ℕ × ℕ)) IndexCause
reading_at kind lines place = pair_on kind (slice_index_or lines place [])

-- a line holds the pair
pub record HoldsPair (kind : IndexKind) (lines : List (List ℕ)) (pair : ℕ × ℕ) : Type 0 where
  pub place : ℕ
  pub within : place < length lines
  pub parsed : reading_at kind lines place ≡ Ok (Some pair)

-- the line holds a pointer that a line above holds too
pub record Repeats (kind : IndexKind) (lines : List (List ℕ)) (place : ℕ) : Type 0 where
  pub pair : ℕ × ℕ
  pub parsed : reading_at kind lines place ≡ Ok (Some pair)
  pub earlier : ℕ
  pub above : earlier < place
  pub other : ℕ × ℕ
  pub parsed_above : reading_at kind lines earlier ≡ Ok (Some other)
  pub same : other.0 ≡ pair.0

-- the line is refused for this cause: by what it holds, or because a line above has its pointer
abbrev pub IsFaulty : IndexKind → List (List ℕ) → ℕ → IndexCause → Type 0
IsFaulty kind lines place cause = (reading_at kind lines place ≡ Err cause) ⊎ ((cause ≡ DuplicatePointer) × Repeats kind lines place)

-- the fault is that of the first faulty line
pub record IsFirstFault (kind : IndexKind) (lines : List (List ℕ)) (fault : IndexFault) : Type 0 where
  pub place : ℕ
  pub within : place < length lines
  pub numbered : fault.line ≡ place + 1
  pub faulty : IsFaulty kind lines place fault.cause
  pub others_good : (earlier : ℕ) (cause : IndexCause) → earlier < place → IsFaulty kind lines earlier cause → ⊥

-- a file of this kind may have the pair
abbrev pub IsEntry : IndexKind → ℕ × ℕ → Type 0
IsEntry kind pair = IsScalar pair.1 × IsTrue (allows kind pair.0 pair.1)

-- the pairs are those that the lines hold, in the order of their pointers, each once, and no line is faulty
pub record AreParsed (kind : IndexKind) (lines : List (List ℕ)) (pairs : Pairs) : Type 0 where
  pub parsed : (pair : ℕ × ℕ) → Contains pairs pair ↔ HoldsPair kind lines pair
  pub rising : IsRising pairs
  pub entries : All (IsEntry kind) pairs
  pub all_good : (place : ℕ) (cause : IndexCause) → place < length lines → IsFaulty kind lines place cause → ⊥
