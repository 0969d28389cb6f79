-- The sockets of clients, those that are there and those that were closed: whose bytes went through them, and why they were closed.
use Rattle.std.specs.Prelude.{◌≡◌, ◌≢◌, ◌⊎◌, ℕ, ◌==◌, true, if◌then◌else◌, List, [], ◌∷◌, ◌++◌, map, Option, None, Some}
use Rattle.sessions.specs.Reaching.{came_by, went_by}
use Rattle.sessions.specs.Sessions.{Hall, client_at, Act, Joins, Sends, Asks, Gets, Leaves}
use Rattle.serving.specs.declared.departures.Departures.{Departures, fold-Departures, TheOpen.Departures-F}
use Rattle.serving.specs.{Guarding.given_by, Guarding.taken_by, declared.peer.Peer.Peer, declared.server.Server.Server, Resting.peer_at}

abbrev one_more : Departures-F (List (ℕ × Peer)) → List (ℕ × Peer)
one_more Departures-F.Nobody = []
one_more (Departures-F.Then before c peer) = (c.value, peer.value) ∷ before.value

-- the sockets that were closed, each with its client's number, the last one at the front
abbrev pub closed : Departures → List (ℕ × Peer)
closed = fold-Departures (List (ℕ × Peer)) one_more

-- those of number c
abbrev pub of_number : ℕ → List (ℕ × Peer) → List Peer
of_number c [] = []
of_number c (x ∷ before) = if x.0 == c then x.1 ∷ of_number c before else of_number c before

-- and in front of them one that is there, if there is one
abbrev pub with_open : Option Peer → List Peer → List Peer
with_open None before = before
with_open (Some peer) before = peer ∷ before

-- the sockets that number c has had, the last one at the front: one that is there, and those that were closed
abbrev pub sockets_at : ℕ → Server → List Peer
sockets_at c server = with_open (peer_at server.peers c) (of_number c (closed server.left))

-- what the reads of each returned and what is admitted of it
abbrev pub received_at : ℕ → Server → List (List ℕ)
received_at c server = map (λ (peer : Peer). given_by peer.socket) (sockets_at c server)

-- what the writes of each took
abbrev pub sent_at : ℕ → Server → List (List ℕ)
sent_at c server = map (λ (peer : Peer). taken_by peer.socket) (sockets_at c server)

-- ---- bytes of clients

-- who connects at number c has none yet
abbrev pub with_newcomer : ℕ → Act → List (List ℕ) → List (List ℕ)
with_newcomer c (Joins d) before = if d == c then [] ∷ before else before
with_newcomer c (Sends d bytes) before = before
with_newcomer c (Asks d) before = before
with_newcomer c (Gets d bytes) before = before
with_newcomer c (Leaves d) before = before

-- these are bytes of the client that came last
abbrev pub with_bytes : List ℕ → List (List ℕ) → List (List ℕ)
with_bytes bytes [] = []
with_bytes bytes (last ∷ before) = (last ++ bytes) ∷ before

-- the bytes of each client of number c behind acts, the client that came last at the front, by those that each act brings
abbrev pub bytes_behind : ℕ → (Act → List ℕ) → List Act → List (List ℕ) → List (List ℕ)
bytes_behind c brings [] before = before
bytes_behind c brings (a ∷ acts) before = bytes_behind c brings acts (with_bytes (brings a) (with_newcomer c a before))

-- Each client of a number has a socket of its own. What is admitted of what its reads returned is what came from the client by these acts, and
-- what the writes took went to it: none of it is lost, repeated or another's.
pub record Carries (acts : List Act) (old new : Server) : Type 0 where
  pub received : (c : ℕ) → received_at c new ≡ bytes_behind c (came_by c) acts (received_at c old)
  pub sent : (c : ℕ) → sent_at c new ≡ bytes_behind c (went_by c) acts (sent_at c old)

-- ---- who leaves

-- of the last of these sockets the end was read, or a call failed
abbrev pub WasOver : List Peer → Type 0
WasOver [] = ⊥
WasOver (peer ∷ before) = peer.over ≡ true

-- the client of number c that left last was over, or what came from a client can't be kept
abbrev pub HadCause : ℕ → Server → Type 0
HadCause c server = WasOver (of_number c (closed server.left)) ⊎ (server.is_unkept ≡ true)

-- whoever was there and isn't any more
abbrev pub HadCauses : Server → Hall → Hall → Type 0
HadCauses server old new = (c : ℕ) → client_at old c ≢ None → client_at new c ≡ None → HadCause c server
