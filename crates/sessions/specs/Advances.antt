-- One step of a client, between the sessions and its device.
use Rattle.std.specs.Prelude.{◌≡◌, ◌≢◌, ◌≤◌, ℕ, length, ◌==◌, ◌&&◌, Bool, true, false, ◌++◌, ◌⊎◌, List, [], ◌∷◌, Option, Some, None}
use Rattle.std.specs.Option.{is_some}
use Rattle.connections.specs.Events.{line_at}
use Rattle.sessions.specs.Sessions.{Client, Hall, client_at, Act, Joins, Sends, Asks, Gets, Leaves, Did, fresh_client}
use Rattle.sessions.specs.{declared.sessions.Advance.Advance, declared.sessions.Advance.TheVariants.Moved, Reaching.came, Reaching.went}

-- something came from client c that isn't taken yet
abbrev pub HasInput : ℕ → Hall → Type 0
HasInput c h = (client : Client) × (client_at h c ≡ Some client) × (client.input ≢ [])

-- A step moved: bytes went to the client, or what came from it was taken, of which there was some, or bytes came from it.
abbrev pub Moves : ℕ → Hall → List Act → Type 0
Moves c old acts = ((bytes : List ℕ) × (acts ≡ Gets c bytes ∷ []) × (bytes ≢ [])) ⊎ ((acts ≡ Asks c ∷ []) × HasInput c old)
    ⊎ ((bytes : List ℕ) × (acts ≡ Sends c bytes ∷ []) × (bytes ≢ []))

-- client c sends, asks or gets: it doesn't connect or go, and nothing happens to another
abbrev pub is_step_of : ℕ → Act → Bool
is_step_of c (Joins d) = false
is_step_of c (Sends d bytes) = d == c
is_step_of c (Asks d) = d == c
is_step_of c (Gets d bytes) = d == c
is_step_of c (Leaves d) = false

abbrev pub are_steps_of : ℕ → List Act → Bool
are_steps_of c [] = true
are_steps_of c (a ∷ acts) = is_step_of c a && are_steps_of c acts

-- What happened is an act of client c, or nothing; what the device's reads returned is what came from it, and what its writes took is what
-- went to it. It neither connects nor goes; the other clients are as they were, and the lines that are begun on their connections.
pub record Advanced (answer : Advance) (c : ℕ) (old new : Hall) (received_old received_new sent_old sent_new : List ℕ) : Type 0 where
  pub acts : List Act
  pub one : length acts ≤ 1
  pub own : are_steps_of c acts ≡ true
  pub moved : answer ≡ Moved → Moves c old acts
  pub did : Did old acts new
  pub received : received_new ≡ received_old ++ came c acts
  pub sent : sent_new ≡ sent_old ++ went c acts
  pub stays : is_some (client_at new c) ≡ is_some (client_at old c)
  pub others : (d : ℕ) → d ≢ c → client_at new d ≡ client_at old d
  pub other_lines : (d : ℕ) → d ≢ c → line_at new.traffic d ≡ line_at old.traffic d

-- A client rests: its device would have had to wait for room and there are bytes to send, or for bytes and there is nothing to send and nothing to take.
abbrev pub Rests : Option Client → Type 0 → Type 0 → Type 0
Rests (Some client) empty full = ((client.unsent ≢ []) × full) ⊎ ((client ≡ fresh_client) × empty)
Rests None empty full = ⊥
