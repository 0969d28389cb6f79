-- What a server knows of its sockets and of its listener behind what the system reported of them.
use Rattle.std.specs.Prelude.{◌≡◌, ℕ, ◌+◌, ◌==◌, Bool, true, false, ◌||◌, List, [], Option, None, if◌then◌else◌}
use Rattle.std.specs.{Option.option_map, List.fold, List.list_any}
use Rattle.connections.specs.Events.{connections}
use Rattle.mio.specs.{declared.event.event.Event.Event, Event.event_token, Event.is_readable, Event.is_writable, Event.is_error, Event.is_read_closed}
use Rattle.mio.specs.{Event.is_write_closed, Events.capacity, Events.items}
use Rattle.serving.specs.declared.{peer.Peer.Peer, server.Server.Server}
use Rattle.serving.specs.{Guarding.given_by, Guarding.taken_by, Polls.waits_of, Resting.peer_at, Sockets.Carries, Sockets.closed, Spins.Pauses}

-- a socket of which nothing is known yet: each call may find something
pub record IsFresh (peer : Peer) : Type 0 where
  pub read : peer.may_read ≡ true
  pub write : peer.may_write ≡ true
  pub room : peer.is_room_watched ≡ false
  pub hung_up : peer.hung_up ≡ false
  pub over : peer.over ≡ false
  pub received : given_by peer.socket ≡ []
  pub sent : taken_by peer.socket ≡ []

-- ---- reports

-- the report is of this number
abbrev pub is_of : ℕ → Event → Bool
is_of n e = (event_token e).0 == n

-- the socket has failed, or its client will take no more
abbrev pub breaks : Event → Bool
breaks e = is_error e || is_write_closed e

-- no further report comes before the end is read
abbrev pub hangs_up : Event → Bool
hangs_up e = breaks e || is_read_closed e

-- A socket behind a report of it: from then on it counts as ready for what was reported; and for a read, if it hung up.
abbrev pub noted : Event → Peer → Peer
noted e peer = record peer {
  hung_up = peer.hung_up || hangs_up e;
  may_read = peer.may_read || ((peer.hung_up || hangs_up e) || is_readable e);
  may_write = peer.may_write || (breaks e || is_writable e);
}

-- what is at a number behind a report
abbrev pub noted_at : ℕ → Option Peer → Event → Option Peer
noted_at c peer e = if is_of c e then option_map (noted e) peer else peer

-- and behind several, one after another
abbrev pub noted_all : ℕ → List Event → Option Peer → Option Peer
noted_all c events peer = fold (noted_at c) peer events

-- ---- servers

-- A server that has done nothing yet, and has no socket. Somebody may wait at the listener, and there is room for reports of each client and of it.
pub record IsNew (server : Server) : Type 0 where
  pub room : capacity server.events ≡ connections + 1
  pub asked : server.is_asked ≡ true
  pub refused : server.is_refused ≡ false
  pub unkept : server.is_unkept ≡ false
  pub alone : server.alone_since ≡ None
  pub spin : Pauses 0 server.spin
  pub polls : waits_of server.polls ≡ []
  pub peers : (c : ℕ) → peer_at server.peers c ≡ None
  pub left : closed server.left ≡ []

-- what asking the system leaves as it was; no socket is read from or written to
pub record IsKept (old new : Server) : Type 0 where
  pub limits : new.limits ≡ old.limits
  pub refused : new.is_refused ≡ old.is_refused
  pub unkept : new.is_unkept ≡ old.is_unkept
  pub alone : new.alone_since ≡ old.alone_since
  pub carries : Carries [] old new

-- ---- calls that ask what is new

-- what the last call reported was noted, all of it: of each client's socket, and that clients wait at the listener
pub record Noted (old new : Server) : Type 0 where
  pub peers : (c : ℕ) → peer_at new.peers c ≡ noted_all c (items new.events) (peer_at old.peers c)
  pub asked : new.is_asked ≡ (old.is_asked || list_any (is_of connections) (items new.events))

-- nothing was reported
pub record NothingNew (old new : Server) : Type 0 where
  pub peers : (c : ℕ) → peer_at new.peers c ≡ peer_at old.peers c
  pub asked : new.is_asked ≡ old.is_asked
