-- In which waits a server spins, and what it does in a wait.
use Rattle.std.specs.Prelude.{◌≡◌, ◌≢◌, ◌⊎◌, ℕ, ◌+◌, ◌*◌, ◌-◌, ◌<◌, Bool, true, false, [], ◌∷◌, ◌++◌, Option, Some, None, min}
use Rattle.mio.specs.Events.{items}
use Rattle.serving.specs.Polls.{waits_of, at_once}
use Rattle.serving.specs.declared.{server.Server.Server, spin.Spin.Spin, spin.TheConstants.LONGEST_PAUSE, spin.TheConstants.SPINS}

-- In how many waits it doesn't spin behind a spin that found something new, or didn't, and had `pause` waits behind the one before.
abbrev pub pause_behind : Bool → ℕ → ℕ
pause_behind true pause = 0
pause_behind false pause = min (2 * pause + 1) LONGEST_PAUSE

-- the next spin comes behind `waits` waits
pub record Pauses (waits : ℕ) (spin : Spin) : Type 0 where
  pub left : spin.left ≡ waits
  pub pause : spin.pause ≡ waits

-- it asks the system once
abbrev pub Asks : Option ℕ → Server → Server → Type 0
Asks most old new = waits_of new.polls ≡ waits_of old.polls ++ most ∷ []

-- It asks at once, again and again, and the last time something is new.
pub record Finds (old new : Server) : Type 0 where
  pub before : ℕ
  pub few : before < SPINS
  pub polls : waits_of new.polls ≡ waits_of old.polls ++ at_once (before + 1)
  pub some : items new.events ≢ []

-- A wait in which it doesn't spin.
pub record Sleeps (old new : Server) : Type 0 where
  pub paused : 0 < old.spin.left
  pub polls : Asks None old new
  pub left : new.spin.left ≡ old.spin.left - 1
  pub pause : new.spin.pause ≡ old.spin.pause

-- A wait that ends in the spin.
pub record SpinsWell (old new : Server) : Type 0 where
  pub due : old.spin.left ≡ 0
  pub finds : Finds old new
  pub next : Pauses (pause_behind true old.spin.pause) new.spin

-- A wait in which nothing is new as long as it spins, and then it sleeps.
pub record SpinsInVain (old new : Server) : Type 0 where
  pub due : old.spin.left ≡ 0
  pub polls : waits_of new.polls ≡ waits_of old.polls ++ at_once SPINS ++ None ∷ []
  pub next : Pauses (pause_behind false old.spin.pause) new.spin

-- What a wait is, by how long it lasts at most: it spins only where it may wait without a limit.
abbrev pub Waits : Option ℕ → Server → Server → Type 0
Waits (Some most) old new = Asks (Some most) old new × (new.spin ≡ old.spin)
Waits None old new = Sleeps old new ⊎ SpinsWell old new ⊎ SpinsInVain old new
