-- The names of a desk's documents: which a desk can have that began without a document.
use Rattle.std.specs.{Prelude.ℕ, Prelude.◌≤◌, Prelude.List, Prelude.length, Prelude.Option, Option.IsSome, FinMap.empty, FinMap.get}
use Rattle.desk.specs.Documents.{Names}
use Rattle.connections.specs.{Traffic.Traffic, Events.Happening, Clients.Numbered, Clients.OccurAll, Clients.BegunLines, Clients.StandFor}
use Rattle.gateway.specs.Head.{Heading, ObeysAll}
use Rattle.records.specs.Playing.{PlaysEach}

-- of 1 to 64 bytes
abbrev pub IsNameLong : List ℕ → Type 0
IsNameLong name = (1 ≤ length name) × (length name ≤ 64)

-- each document has such a name
abbrev pub AreNamed : Names → Type 0
AreNamed documents = (name : List ℕ) → IsSome (get documents name) → IsNameLong name

-- ---- laws

abbrev pub NoneIsNamed : Type 0
NoneIsNamed = AreNamed empty

-- Whatever happens on connections, it stays so.
abbrev pub EventsKeepNames : Type 0
EventsKeepNames = (t u : Traffic) (w : BegunLines) (es : List Happening) (replies : List Numbered) → StandFor t w → OccurAll t es replies u
    → AreNamed t.office.documents → AreNamed u.office.documents

-- So it does behind lines of a head.
abbrev pub HeadsKeepNames : Type 0
HeadsKeepNames = (old new : Heading) (lines : List (List ℕ)) → ObeysAll old lines new → AreNamed old.office.documents → AreNamed new.office.documents

-- And behind what is played of a record, from wherever on.
abbrev pub PlaysKeepNames : Type 0
PlaysKeepNames = (t u : Traffic) (w : BegunLines) (lines : List (List ℕ)) (was is : Option (List ℕ)) → StandFor t w → PlaysEach was lines t u is
    → AreNamed t.office.documents → AreNamed u.office.documents
