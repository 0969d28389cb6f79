-- The errors of a document, read off what its pieces remember.
use Rattle.std.specs.Prelude.{◌≡◌, ℕ, ◌+◌, Bool, true, false, List, [], ◌∷◌, ◌++◌, Option, None, Some}
use Rattle.enc_names.specs.declared.place.Place.{Place}
use Rattle.state_memo.specs.declared.{ended.Ended.Ended, outcome.Outcome.Outcome, run.Run.Run}
use Rattle.piece_rope.specs.{Entry.Entry, Entry.here_of, Entry.sums_of, Made.ends_at}

abbrev pub place_if : Bool → ℕ → ℕ → List Place
place_if true from to = record { from = from; to = to } ∷ []
place_if false from to = []

-- the places of the errors among items of a piece that begins at byte `base`, the first of which begins at `from`
abbrev pub errors_at : ℕ → ℕ → List Ended → List Place
errors_at base from [] = []
errors_at base from (e ∷ es) = place_if e.error from (ends_at base e.end) ++ errors_at base (ends_at base e.end) es

-- the place after a run, or after none
abbrev pub begin_behind : ℕ → ℕ → Option Run → ℕ
begin_behind base from None = from
begin_behind base from (Some run) = ends_at base run.last

-- where the last of these items ends
abbrev pub last_at : ℕ → ℕ → List Ended → ℕ
last_at base from [] = from
last_at base from (e ∷ es) = last_at base (ends_at base e.end) es

-- the same of pieces in a row
abbrev pub errors_from : ℕ → ℕ → List Entry → List Place
errors_from base from [] = []
errors_from base from (p ∷ ps) = errors_at base from (here_of p).items ++ errors_from (base + (here_of p).sum.bytes) (last_at base from (here_of p).items) ps

abbrev pub last_from : ℕ → ℕ → List Entry → ℕ
last_from base from [] = from
last_from base from (p ∷ ps) = last_from (base + (here_of p).sum.bytes) (last_at base from (here_of p).items) ps

-- the errors of all pieces and of the end after them, after a byte order mark, whose length comes first
abbrev pub all_errors : ℕ → List Entry → Outcome → List Place
all_errors bom ps tail = errors_from 0 bom ps ++ errors_at (sums_of ps).bytes (last_from 0 bom ps) tail.items

-- these places are the first of all
pub record AreFirstOf (first all : List Place) : Type 0 where
  pub others : List Place
  pub parts : all ≡ first ++ others
