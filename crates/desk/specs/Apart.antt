-- Documents are apart: what a desk answers for one of them depends on no other.
use Rattle.std.specs.Prelude.{◌≡◌, ◌≢◌, ℕ, Bool, List, [], ◌∷◌, ◌++◌, if◌then◌else◌, Option, Some, None}
use Rattle.std.specs.{Str.bytes_eq, FinMap.get}
use Rattle.desk.specs.{Commands.Ask, Commands.Asked, Commands.Open, Desk.Office, Desk.has_place, Desk.Answers}
use Rattle.desk.specs.declared.{fault.Fault.TheVariants.OutOfMemory, ops.Reply.Reply, ops.Reply.TheVariants.Refused}

-- a command, the desk that it found, and the reply
pub record Exchange : Type 0 where
  pub before : Office
  pub command : Asked
  pub reply : Reply

-- one after another
abbrev pub Follows : Office → List Exchange → Office → Type 0
Follows o [] p = p ≡ o
Follows o (e ∷ es) p = (mid : Office) × (e.before ≡ o) × Answers o e.command e.reply mid × Follows mid es p

-- no reply is OutOfMemory
abbrev pub NoneWanting : List Exchange → Type 0
NoneWanting [] = Unit {0}
NoneWanting (e ∷ es) = (e.reply ≢ Refused OutOfMemory) × NoneWanting es

-- at an open, whether there is a place for one more document
abbrev pub place_at : Office → Ask → Option Bool
place_at o (Open label bytes bom) = Some (has_place o.documents)
place_at o ask = None

-- what was asked of the document d, with the places at its opens
abbrev pub asks_of : List ℕ → List Exchange → List (Ask × Option Bool)
asks_of d [] = []
asks_of d (e ∷ es) = (if bytes_eq e.command.doc d then (e.command.ask, place_at e.before e.command.ask) ∷ [] else []) ++ asks_of d es

-- the replies to what was asked of the document d
abbrev pub replies_of : List ℕ → List Exchange → List Reply
replies_of d [] = []
replies_of d (e ∷ es) = (if bytes_eq e.command.doc d then e.reply ∷ [] else []) ++ replies_of d es

-- two desks that hold the same for d answer the same to d's commands, whatever is asked of other documents
abbrev pub DocumentsAreApart : Type 0
DocumentsAreApart = (d : List ℕ) (o o2 p p2 : Office) (es fs : List Exchange)
    → o.indexes ≡ p.indexes → o.labels ≡ p.labels → get o.documents d ≡ get p.documents d → Follows o es o2 → Follows p fs p2 → NoneWanting es → NoneWanting fs
    → asks_of d es ≡ asks_of d fs → replies_of d es ≡ replies_of d fs
