-- When a server has nothing to do but wait: each client waits for its socket, and whoever isn't let in has to wait.
use Rattle.std.specs.Prelude.{◌≡◌, ◌≢◌, ◌⊎◌, ℕ, ◌+◌, ◌<◌, ◌≤◌, not, true, false, List, [], ◌∷◌, Option, None, Some, IsSome, slice_index_or, if◌then◌else◌}
use Rattle.std.specs.{Duration.as_nanos, Option.is_some}
use Rattle.connections.specs.Events.{connections}
use Rattle.sessions.specs.{Sessions.Act, Sessions.AreTaken, Sessions.Client, Sessions.Hall, Sessions.client_at, Advances.Rests}
use Rattle.serving.specs.{Acting.Came, Acting.is_act_of, declared.peer.Peer.Peer, declared.peers.Peers.Peers, declared.server.Limits.Limits}
use Rattle.serving.specs.declared.server.{Next.Next, Next.TheVariants.Wait, Next.TheVariants.End, Next.TheVariants.GiveUp, Server.Server, TheConstants.STEPS}

-- ---- clients

-- the socket at a number
abbrev pub peer_at : Peers → ℕ → Option Peer
peer_at peers c = slice_index_or peers.peers c None

-- A client has to wait for its socket, for bytes or for room, and the socket was found to have none; or there is no socket.
abbrev pub RestsOn : Option Client → Option Peer → Type 0
RestsOn client (Some peer) = Rests client (peer.may_read ≡ false) (peer.may_write ≡ false)
RestsOn client None = Unit {0}

-- And the system reports when it need not wait any more: room for writing it reports only where that is watched.
abbrev pub RestsWatched : Option Client → Option Peer → Type 0
RestsWatched client (Some peer) = RestsOn client (Some peer) × (peer.is_room_watched ≡ not peer.may_write)
RestsWatched client None = Unit {0}

-- the clients below a number rest
abbrev pub RestBelow : ℕ → Peers → Hall → Type 0
RestBelow n peers h = (c : ℕ) → c < n → RestsWatched (client_at h c) (peer_at peers c)

-- how many acts are client c's
abbrev pub share : ℕ → List Act → ℕ
share c [] = 0
share c (a ∷ acts) = (if is_act_of c a then 1 else 0) + share c acts

-- Nobody is passed over, and nobody holds up the others: in these acts each client below a number takes part, unless it rests behind them,
-- none with more than its steps and its leave; the clients from there on take none.
pub record TakeTurns (n : ℕ) (acts : List Act) (peers : Peers) (h : Hall) : Type 0 where
  pub turns : (c : ℕ) → c < n → (0 < share c acts) ⊎ RestsWatched (client_at h c) (peer_at peers c)
  pub few : (c : ℕ) → share c acts ≤ STEPS + 1
  pub none : (c : ℕ) → n ≤ c → share c acts ≡ 0

-- each client but c is as it was, and its socket
pub record OthersKept (c : ℕ) (old_peers new_peers : Peers) (old new : Hall) : Type 0 where
  pub clients : (d : ℕ) → d ≢ c → client_at new d ≡ client_at old d
  pub peers : (d : ℕ) → d ≢ c → peer_at new_peers d ≡ peer_at old_peers d

-- each client has a socket, and each socket is a client's
abbrev pub Seated : Peers → Hall → Type 0
Seated peers h = (c : ℕ) → is_some (peer_at peers c) ≡ is_some (client_at h c)

-- no client has a socket
abbrev pub AreNone : Peers → Type 0
AreNone peers = (c : ℕ) → c < connections → peer_at peers c ≡ None

-- ---- who isn't let in

-- None waits at the listener, no more are to come, one couldn't be let in, or each place is taken.
abbrev pub NoMore : Server → Hall → Type 0
NoMore server h = (server.is_asked ≡ false) ⊎ (server.limits.clients ≡ Some 0) ⊎ (server.is_refused ≡ true) ⊎ AreTaken server.limits.places h

-- That somebody waits at the listener is forgotten only where the next one was asked for and none was there: there was a place, more were
-- to come, and none couldn't be let in.
abbrev pub Looked : Server → Server → Hall → Type 0
Looked old new h = (new.is_asked ≡ old.is_asked) ⊎ ((new.is_refused ≡ false) × (old.limits.clients ≢ Some 0) × ¬ AreTaken old.limits.places h)

-- One who waited came, or none could.
abbrev pub Listened : Server → Server → Hall → Type 0
Listened old new h = ((mid : Hall) × Came old.limits new.limits h mid) ⊎ NoMore new h

-- nothing can be done before the system reports something new
pub record AllRest (server : Server) (h : Hall) : Type 0 where
  pub clients : RestBelow connections server.peers h
  pub listener : NoMore server h

-- ---- how long is waited

-- it waits for `long` nanoseconds
abbrev pub WaitsFor : ℕ → Next → Type 0
WaitsFor long (Wait (Some time)) = as_nanos time ≡ long
WaitsFor long (Wait None) = ⊥
WaitsFor long End = ⊥
WaitsFor long GiveUp = ⊥

-- a wait isn't over at once
abbrev pub WaitsSome : Next → Type 0
WaitsSome (Wait (Some time)) = 0 < as_nanos time
WaitsSome (Wait None) = Unit {0}
WaitsSome End = Unit {0}
WaitsSome GiveUp = Unit {0}

-- it waits for `most` nanoseconds at most
abbrev pub WaitsAtMost : ℕ → Next → Type 0
WaitsAtMost most (Wait (Some time)) = as_nanos time ≤ most
WaitsAtMost most (Wait None) = ⊥
WaitsAtMost most End = Unit {0}
WaitsAtMost most GiveUp = Unit {0}

-- what is left of the limits lets a server end by itself where no client is there: no more are to come, or none came for too long
abbrev pub Ends : Limits → Type 0
Ends limits = (limits.clients ≡ Some 0) ⊎ IsSome limits.idle
