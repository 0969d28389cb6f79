-- The events of a trace's lines, and what it prints of them: the laws of many connections hold of a trace.
use Rattle.std.specs.Prelude.{◌≡◌, ℕ, Bool, true, false, List, [], ◌∷◌, ◌++◌, Option, Some, None}
use Rattle.connections.specs.{declared.gateway.GateFault.GateFault, Traffic.Traffic, Events.Happening}
use Rattle.connections.specs.Clients.{Numbered, OccurAll, BegunLines, lines_of, begun_after_all, ServesAll, StandFor}
use Rattle.gateway.specs.Trace.{is_skipped, event_on, parts, refusal_line, printed, PrintsAll}

-- ---- the events of the gateway that lines stand for

abbrev pub parts_of : Option Happening → List Happening
parts_of None = []
parts_of (Some e) = parts e

-- those of a line, by whether it is skipped
abbrev pub line_events : Bool → List ℕ → List Happening
line_events true line = []
line_events false line = parts_of (event_on line)

abbrev pub events_on : List (List ℕ) → List Happening
events_on [] = []
events_on (line ∷ lines) = line_events (is_skipped line) line ++ events_on lines

-- ---- what is printed of them

-- a reply, or a refusal of the event on a line
pub data Said : Type 0 where
  Answered : Numbered → Said
  Refused : ℕ → GateFault → Said

abbrev pub said_text : List Said → List ℕ
said_text [] = []
said_text (Answered r ∷ more) = printed r ++ said_text more
said_text (Refused c fault ∷ more) = refusal_line c fault ++ said_text more

abbrev pub replies_among : List Said → List Numbered
replies_among [] = []
replies_among (Answered r ∷ more) = r ∷ replies_among more
replies_among (Refused c fault ∷ more) = replies_among more

-- ---- the laws

-- What lines print is replies and refusals, and these are all replies of the lines' events, which occurred one after another.
abbrev pub TracesAreEvents : Type 0
TracesAreEvents = (t u : Traffic) (lines : List (List ℕ)) (out : List ℕ) → PrintsAll t lines out u
    → (said : List Said) × (out ≡ said_text said) × OccurAll t (events_on lines) (replies_among said) u

-- They are those of one desk that took the lines of all connections one at a time in the order of their line feeds, each to its connection.
abbrev pub TracesInOrder : Type 0
TracesInOrder = (t u : Traffic) (w : BegunLines) (lines : List (List ℕ)) (out : List ℕ) → StandFor t w → PrintsAll t lines out u
    → (said : List Said) × (out ≡ said_text said) × ServesAll t.office (lines_of w (events_on lines)) (replies_among said) u.office
    × StandFor u (begun_after_all w (events_on lines))
