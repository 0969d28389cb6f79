-- Events of many connections, and the lines that they complete.
use Rattle.std.specs.Prelude.{◌≡◌, ℕ, ◌==◌, List, [], ◌∷◌, ◌++◌, length, replicate, Option, Some, None, slice_set, if◌then◌else◌}
use Rattle.connections.specs.{declared.gateway.GateFault.GateFault, Lines.has_end, Lines.before_end, Traffic.Partial, Traffic.Stands, Traffic.Traffic}
use Rattle.connections.specs.Events.{Happening, Opening, Bringing, Closing, connections, at_number, line_at, gate_fault, Happens}
use Rattle.desk.specs.Desk.{Office}
use Rattle.line_protocol.specs.Step.{Replies}

-- a text, with the number of its connection
abbrev pub Numbered : Type 0
Numbered = ℕ × List ℕ

abbrev pub number_of : Happening → ℕ
number_of (Opening c) = c
number_of (Bringing c bytes) = c
number_of (Closing c) = c

-- ---- what events do

-- the reply of an event goes to its connection
abbrev pub sent_to : ℕ → Option (List ℕ) → List Numbered
sent_to c None = []
sent_to c (Some text) = (c, text) ∷ []

-- an event, by why it is refused
abbrev pub OccursBy : Option GateFault → Traffic → Happening → List Numbered → Traffic → Type 0
OccursBy (Some fault) old e replies new = (replies ≡ []) × (new ≡ old)
OccursBy None old e replies new = (taken : ℕ) × (reply : Option (List ℕ)) × Happens old e taken reply new × (replies ≡ sent_to (number_of e) reply)

-- an event is refused and does nothing, or it is accepted
abbrev pub Occurs : Traffic → Happening → List Numbered → Traffic → Type 0
Occurs old e replies new = OccursBy (gate_fault old.lines e) old e replies new

-- one after another
abbrev pub OccurAll : Traffic → List Happening → List Numbered → Traffic → Type 0
OccurAll old [] replies new = (replies ≡ []) × (new ≡ old)
OccurAll old (e ∷ es) replies new =
    (mid : Traffic) × (here later : List Numbered) × Occurs old e here mid × OccurAll mid es later new × (replies ≡ here ++ later)

-- ---- the lines that events complete

-- the bytes of the partial line of each open connection
abbrev pub BegunLines : Type 0
BegunLines = List (Option (List ℕ))

abbrev pub or_empty : Option (List ℕ) → List ℕ
or_empty None = []
or_empty (Some line) = line

abbrev pub begun_on : BegunLines → ℕ → List ℕ
begun_on w c = or_empty (at_number w c)

abbrev pub accepted : BegunLines → Happening → BegunLines
accepted w (Opening c) = slice_set w c (Some [])
accepted w (Bringing c bytes) = slice_set w c (Some (if has_end bytes then [] else begun_on w c ++ bytes))
accepted w (Closing c) = slice_set w c None

abbrev pub completed : BegunLines → Happening → List Numbered
completed w (Opening c) = []
completed w (Bringing c bytes) = if has_end bytes then (c, begun_on w c ++ before_end bytes) ∷ [] else []
completed w (Closing c) = []

abbrev pub unless_refused : {A : Type 0} → Option GateFault → A → A → A
unless_refused None x y = x
unless_refused (Some fault) x y = y

-- the partial lines after an event
abbrev pub begun_after : BegunLines → Happening → BegunLines
begun_after w e = unless_refused (gate_fault w e) (accepted w e) w

-- the line that an event completes
abbrev pub lines_in : BegunLines → Happening → List Numbered
lines_in w e = unless_refused (gate_fault w e) (completed w e) []

-- the complete lines, in the order of their line feeds
abbrev pub lines_of : BegunLines → List Happening → List Numbered
lines_of w [] = []
lines_of w (e ∷ es) = lines_in w e ++ lines_of (begun_after w e) es

abbrev pub begun_after_all : BegunLines → List Happening → BegunLines
begun_after_all w [] = w
begun_after_all w (e ∷ es) = begun_after_all (begun_after w e) es

-- ---- the law

-- One desk takes the lines one at a time, in their order, and each reply goes to the connection of its line.
abbrev pub ServesAll : Office → List Numbered → List Numbered → Office → Type 0
ServesAll old [] replies new = (replies ≡ []) × (new ≡ old)
ServesAll old (l ∷ ls) replies new =
    (mid : Office) × (text : List ℕ) × (rest : List Numbered) × Replies old l.1 text mid × (replies ≡ (l.0, text) ∷ rest) × ServesAll mid ls rest new

-- what is known of the partial line of a connection, and the line itself
abbrev pub StandsAt : Option Partial → Option (List ℕ) → Type 0
StandsAt None None = Unit {0}
StandsAt (Some known) (Some line) = Stands known line
StandsAt None (Some line) = ⊥
StandsAt (Some known) None = ⊥

-- the partial lines may be these
pub record StandFor (t : Traffic) (w : BegunLines) : Type 0 where
  pub count : length w ≡ connections
  pub counted : length t.lines ≡ connections
  pub at : (c : ℕ) → StandsAt (line_at t c) (at_number w c)

-- If no connection is open, there is no partial line.
abbrev pub NoneIsBegun : Type 0
NoneIsBegun = (t : Traffic) → t.lines ≡ replicate connections None → StandFor t (replicate connections None)

-- All replies together are those of one desk that took the lines one at a time in the order of their line feeds, each to its connection.
abbrev pub RepliesInOrder : Type 0
RepliesInOrder = (t u : Traffic) (w : BegunLines) (es : List Happening) (replies : List Numbered) → StandFor t w → OccurAll t es replies u
    → ServesAll t.office (lines_of w es) replies u.office × StandFor u (begun_after_all w es)

-- the texts of one connection
abbrev pub own : ℕ → List Numbered → List (List ℕ)
own c [] = []
own c (x ∷ xs) = (if x.0 == c then x.1 ∷ [] else []) ++ own c xs

-- the events of one connection
abbrev pub events_of : ℕ → List Happening → List Happening
events_of c [] = []
events_of c (e ∷ es) = (if number_of e == c then e ∷ [] else []) ++ events_of c es

-- The lines of a connection are those of its own events, whatever comes on the others.
abbrev pub LinesAreOwn : Type 0
LinesAreOwn = (c : ℕ) (w : BegunLines) (es : List Happening) → length w ≡ connections → own c (lines_of w es) ≡ own c (lines_of w (events_of c es))

-- these replies answer these lines, each once, in their order
abbrev pub AnswerEach : List (List ℕ) → List (List ℕ) → Type 0
AnswerEach [] [] = Unit {0}
AnswerEach (l ∷ ls) (r ∷ rs) = ((old new : Office) × Replies old l r new) × AnswerEach ls rs
AnswerEach [] (r ∷ rs) = ⊥
AnswerEach (l ∷ ls) [] = ⊥

-- The replies to a connection answer its own lines.
abbrev pub RepliesAreOwn : Type 0
RepliesAreOwn = (c : ℕ) (old new : Office) (lines replies : List Numbered) → ServesAll old lines replies new → AnswerEach (own c lines) (own c replies)
