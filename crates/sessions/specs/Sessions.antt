-- The clients of a gateway, and what happens to them.
use Rattle.std.specs.Option.{IsSome, is_some}
use Rattle.std.specs.Prelude.{◌≡◌, ℕ, ◌<◌, ◌≤◌, List, [], ◌∷◌, ◌++◌, length, drop, Option, Some, None, slice_set}
use Rattle.devices.specs.declared.reading.TheConstants.{READ_BUFFER}
use Rattle.connections.specs.{Traffic.Traffic, Traffic.Received, Events.Happening, Events.Opening, Events.Bringing, Events.Closing, Events.connections}
use Rattle.connections.specs.{Events.at_number, Events.gate_fault, Events.Took, Events.with_line, Clients.Numbered, Clients.sent_to, Clients.or_empty}

-- A client: what came from it and isn't taken yet, and what of the reply under way isn't sent yet.
pub record Client : Type 0 where
  pub input : List ℕ
  pub unsent : List ℕ

-- the gateway's traffic, and the client at each number
pub record Hall : Type 0 where
  pub traffic : Traffic
  pub clients : List (Option Client)

abbrev pub client_at : Hall → ℕ → Option Client
client_at h c = at_number h.clients c

abbrev pub fresh_client : Client
fresh_client = record { input = []; unsent = [] }

-- what happens to the client of a number
pub data Act : Type 0 where
  -- it connects
  Joins : ℕ → Act
  -- these bytes come from it
  Sends : ℕ → List ℕ → Act
  -- what came from it is taken, up to and including the first line feed, or all of it
  Asks : ℕ → Act
  -- these bytes go to it
  Gets : ℕ → List ℕ → Act
  -- it is gone
  Leaves : ℕ → Act

abbrev pub with_client : Hall → Traffic → ℕ → Option Client → Hall
with_client h t c client = record { traffic = t; clients = slice_set h.clients c client }

-- A client connects: its connection opens.
pub record Joined (old : Hall) (c : ℕ) (new : Hall) : Type 0 where
  pub free : gate_fault old.traffic.lines (Opening c) ≡ None
  pub vacant : client_at old c ≡ None
  pub is : new ≡ with_client old (with_line old.traffic c (Some (Received []))) c (Some fresh_client)

-- Bytes come, a few at once, from a client of which nothing is left to take, and to which nothing is left to send.
pub record Sent (old : Hall) (c : ℕ) (bytes : List ℕ) (new : Hall) : Type 0 where
  pub few : length bytes ≤ READ_BUFFER
  pub was : client_at old c ≡ Some fresh_client
  pub is : new ≡ with_client old old.traffic c (Some (record { input = bytes; unsent = [] }))

-- The gateway takes what came from a client to which nothing is left to send, and the reply is under way.
pub record Asked (old : Hall) (c : ℕ) (reply : Option (List ℕ)) (input : List ℕ) (new : Hall) : Type 0 where
  pub taken : ℕ
  pub is_open : gate_fault old.traffic.lines (Bringing c input) ≡ None
  pub was : client_at old c ≡ Some (record { input = input; unsent = [] })
  pub took : Took old.traffic c input taken reply new.traffic
  pub is : new.clients ≡ slice_set old.clients c (Some (record { input = drop taken input; unsent = or_empty reply }))

-- A front of what isn't sent yet goes to a client.
pub record Got (old : Hall) (c : ℕ) (bytes : List ℕ) (new : Hall) : Type 0 where
  pub input : List ℕ
  pub rest : List ℕ
  pub was : client_at old c ≡ Some (record { input = input; unsent = bytes ++ rest })
  pub is : new ≡ with_client old old.traffic c (Some (record { input = input; unsent = rest }))

-- A client is gone: its connection closes.
pub record Left (old : Hall) (c : ℕ) (new : Hall) : Type 0 where
  pub is_open : gate_fault old.traffic.lines (Closing c) ≡ None
  pub is : new ≡ with_client old (with_line old.traffic c None) c None

-- what an act does, with the events of the gateway that it is and their replies
abbrev pub Acts : Hall → Act → List Happening → List Numbered → Hall → Type 0
Acts old (Joins c) es replies new = (es ≡ Opening c ∷ []) × (replies ≡ []) × Joined old c new
Acts old (Sends c bytes) es replies new = (es ≡ []) × (replies ≡ []) × Sent old c bytes new
Acts old (Asks c) es replies new =
    (input : List ℕ) × (reply : Option (List ℕ)) × (es ≡ Bringing c input ∷ []) × (replies ≡ sent_to c reply) × Asked old c reply input new
Acts old (Gets c bytes) es replies new = (es ≡ []) × (replies ≡ []) × Got old c bytes new
Acts old (Leaves c) es replies new = (es ≡ Closing c ∷ []) × (replies ≡ []) × Left old c new

-- one after another
abbrev pub ActAll : Hall → List Act → List Happening → List Numbered → Hall → Type 0
ActAll old [] es replies new = (es ≡ []) × (replies ≡ []) × (new ≡ old)
ActAll old (a ∷ acts) es replies new =
    (mid : Hall) × (here later : List Happening) × (said more : List Numbered)
    × Acts old a here said mid × ActAll mid acts later more new × (es ≡ here ++ later) × (replies ≡ said ++ more)

-- ---- the acts of calls

-- these acts happened
abbrev pub Did : Hall → List Act → Hall → Type 0
Did old acts new = (es : List Happening) × (replies : List Numbered) × ActAll old acts es replies new

-- Each number below `places` has a client.
abbrev pub AreTaken : ℕ → Hall → Type 0
AreTaken places h = (c : ℕ) → c < connections → c < places → IsSome (client_at h c)

-- the client at a number
pub record Present (h : Hall) (c : ℕ) (client : Client) : Type 0 where
  pub small : c < connections
  pub is : client_at h c ≡ Some client

-- the connections that are open are those of clients
abbrev pub Matches : Traffic → List (Option Client) → Type 0
Matches t clients = (c : ℕ) → is_some (at_number t.lines c) ≡ is_some (at_number clients c)
