-- How a server leads its sessions on: by acts of clients, each as `Sessions` has it, and within its limits.
use Rattle.std.specs.Prelude.{◌≡◌, ◌≢◌, ◌⊎◌, ℕ, ◌+◌, ◌-◌, ◌<◌, ◌≤◌, ◌==◌, nat_lt, ◌&&◌, Bool, true, false, List, length, [], ◌∷◌, ◌++◌, Option, None, Some}
use Rattle.std.specs.Prelude.{Result, IsSome, OnOk, option_map}
use Rattle.connections.specs.Events.{connections}
use Rattle.sessions.specs.Reaching.{came, went}
use Rattle.sessions.specs.Sessions.{Hall, client_at, Act, Joins, Sends, Asks, Gets, Leaves, Did}
use Rattle.serving.specs.{Guarding.given_by, Guarding.taken_by, declared.peer.Peer.Peer, declared.server.Limits.Limits}

-- ---- acts of one client

-- an act of client c, which is there
abbrev pub is_act_of : ℕ → Act → Bool
is_act_of c (Joins d) = false
is_act_of c (Sends d bytes) = d == c
is_act_of c (Asks d) = d == c
is_act_of c (Gets d bytes) = d == c
is_act_of c (Leaves d) = d == c

abbrev pub are_acts_of : ℕ → List Act → Bool
are_acts_of c [] = true
are_acts_of c (a ∷ acts) = is_act_of c a && are_acts_of c acts

-- Acts of client c alone, at most `most`, and at least one where it moved, lead from one hall to the other; and of its socket, what was passed on
-- is what came from it, and what the writes took went to it.
pub record Carried (c most : ℕ) (moved : Type 0) (old new : Hall) (before after : Peer) : Type 0 where
  pub acts : List Act
  pub few : length acts ≤ most
  pub own : are_acts_of c acts ≡ true
  pub some : moved → acts ≢ []
  pub did : Did old acts new
  pub received : given_by after.socket ≡ given_by before.socket ++ came c acts
  pub sent : taken_by after.socket ≡ taken_by before.socket ++ went c acts

-- ---- who comes

-- how many clients come
abbrev pub joins_by : Act → ℕ
joins_by (Joins c) = 1
joins_by (Sends c bytes) = 0
joins_by (Asks c) = 0
joins_by (Gets c bytes) = 0
joins_by (Leaves c) = 0

abbrev pub joins : List Act → ℕ
joins [] = 0
joins (a ∷ acts) = joins_by a + joins acts

-- who comes has one of the first `places` numbers
abbrev pub is_within : ℕ → Act → Bool
is_within places (Joins c) = nat_lt c places
is_within places (Sends c bytes) = true
is_within places (Asks c) = true
is_within places (Gets c bytes) = true
is_within places (Leaves c) = true

abbrev pub are_within : ℕ → List Act → Bool
are_within places [] = true
are_within places (a ∷ acts) = is_within places a && are_within places acts

-- ---- limits

-- `n` in all are within a limit, if there is one
abbrev pub Allows : Option ℕ → ℕ → Type 0
Allows None n = Unit {0}
Allows (Some most) n = n ≤ most

-- what is left of the limits when `n` have come
abbrev pub limits_behind : Limits → ℕ → Limits
limits_behind limits n = record limits { clients = option_map (λ most. most - n) limits.clients }

-- one client comes
pub record Came (before after : Limits) (old new : Hall) : Type 0 where
  pub c : ℕ
  pub did : Did old (Joins c ∷ []) new
  pub place : is_within before.places (Joins c) ≡ true
  pub more : Allows before.clients 1
  pub left : after ≡ limits_behind before 1

-- It ended by itself: nobody is there, and as many have come as were to come, or it was to end where nobody comes for a time.
pub record Ended (limits : Limits) (came : ℕ) (h : Hall) : Type 0 where
  pub nobody : (c : ℕ) → c < connections → client_at h c ≡ None
  pub why : (limits.clients ≡ Some came) ⊎ IsSome limits.idle

-- What serving does: acts of clients, of which as many are let in as the limits allow, at as many numbers as there are places.
pub record Serves {A E : Type 0} (limits : Limits) (answer : Result A E) (old new : Hall) : Type 0 where
  pub acts : List Act
  pub did : Did old acts new
  pub places : are_within limits.places acts ≡ true
  pub most : Allows limits.clients (joins acts)
  pub end : OnOk answer (Ended limits (joins acts) new)
