-- What comes from a client, what goes to it, and the laws of both.
use Rattle.std.specs.Prelude.{◌≡◌, ℕ, ◌==◌, ◌≤◌, Bool, true, ◌&&◌, not, List, [], ◌∷◌, ◌++◌, length, replicate, if◌then◌else◌, Some, None}
use Rattle.connections.specs.{Lines.complete, Lines.unfinished, Events.Happening, Events.connections}
use Rattle.connections.specs.Clients.{Numbered, own, OccurAll, BegunLines, begun_on, lines_of, begun_after_all, StandFor, ServesAll}
use Rattle.devices.specs.declared.reading.TheConstants.{READ_BUFFER}
use Rattle.sessions.specs.Sessions.{Client, Hall, client_at, Act, Joins, Sends, Asks, Gets, Leaves, ActAll, Did}

-- the bytes that came from client c
abbrev pub came_by : ℕ → Act → List ℕ
came_by c (Sends d bytes) = if d == c then bytes else []
came_by c (Joins d) = []
came_by c (Asks d) = []
came_by c (Gets d bytes) = []
came_by c (Leaves d) = []

abbrev pub came : ℕ → List Act → List ℕ
came c [] = []
came c (a ∷ acts) = came_by c a ++ came c acts

-- the bytes that went to client c
abbrev pub went_by : ℕ → Act → List ℕ
went_by c (Gets d bytes) = if d == c then bytes else []
went_by c (Joins d) = []
went_by c (Sends d bytes) = []
went_by c (Asks d) = []
went_by c (Leaves d) = []

abbrev pub went : ℕ → List Act → List ℕ
went c [] = []
went c (a ∷ acts) = went_by c a ++ went c acts

-- client c doesn't connect or go
abbrev pub stays_by : ℕ → Act → Bool
stays_by c (Joins d) = not (d == c)
stays_by c (Leaves d) = not (d == c)
stays_by c (Sends d bytes) = true
stays_by c (Asks d) = true
stays_by c (Gets d bytes) = true

abbrev pub stays : ℕ → List Act → Bool
stays c [] = true
stays c (a ∷ acts) = stays_by c a && stays c acts

-- texts, one after the other
abbrev pub joined : List (List ℕ) → List ℕ
joined [] = []
joined (x ∷ xs) = x ++ joined xs

-- ---- the laws

-- What happens to clients is events of the gateway, one after another.
abbrev pub ActsAreEvents : Type 0
ActsAreEvents = (old new : Hall) (acts : List Act) (es : List Happening) (replies : List Numbered) → ActAll old acts es replies new
    → OccurAll old.traffic es replies new.traffic

-- All replies together are those of one desk that took the lines one at a time in the order of their line feeds, each to its client.
abbrev pub SessionsInOrder : Type 0
SessionsInOrder = (old new : Hall) (w : BegunLines) (acts : List Act) (es : List Happening) (replies : List Numbered)
    → StandFor old.traffic w → ActAll old acts es replies new
    → ServesAll old.traffic.office (lines_of w es) replies new.traffic.office × StandFor new.traffic (begun_after_all w es)

-- As long as a client stays, what went to it and what isn't sent to it yet are the replies to its own lines, in their order: none is lost,
-- repeated or another's.
abbrev pub AnswersReach : Type 0
AnswersReach = (old new : Hall) (acts : List Act) (es : List Happening) (replies : List Numbered) (c : ℕ) (before after : Client)
    → ActAll old acts es replies new → stays c acts ≡ true → client_at old c ≡ Some before → client_at new c ≡ Some after
    → went c acts ++ after.unsent ≡ before.unsent ++ joined (own c replies)

-- And of what came from it, the complete lines are its lines that were answered and those that are still to be taken; and so is the partial line.
abbrev pub LinesAreTaken : Type 0
LinesAreTaken = (old new : Hall) (w : BegunLines) (acts : List Act) (es : List Happening) (replies : List Numbered) (c : ℕ)
    (before after : Client) → StandFor old.traffic w
    → ActAll old acts es replies new → stays c acts ≡ true → client_at old c ≡ Some before → client_at new c ≡ Some after
    → (complete (begun_on w c) (before.input ++ came c acts) ≡ own c (lines_of w es) ++ complete (begun_on (begun_after_all w es) c) after.input)
    × (unfinished (begun_on w c) (before.input ++ came c acts) ≡ unfinished (begun_on (begun_after_all w es) c) after.input)

-- What waits to be taken of each client is little.
abbrev pub HasLittle : Hall → Type 0
HasLittle h = (c : ℕ) (client : Client) → client_at h c ≡ Some client → length client.input ≤ READ_BUFFER

-- This holds if there is no client, and continues to hold.
pub record InputIsLittle : Type 0 where
  pub begin : (h : Hall) → h.clients ≡ replicate connections None → HasLittle h
  pub stays : (old new : Hall) (acts : List Act) → Did old acts new → HasLittle old → HasLittle new

-- No acts lead nowhere, and what acts lead to is where further ones begin.
pub record ActsInARow : Type 0 where
  pub none : (h : Hall) → Did h [] h
  pub more : (old mid new : Hall) (before later : List Act) → Did old before mid → Did mid later new → Did old (before ++ later) new
