-- What the loop does: turns one after another, and a last one behind which it ends.
use Rattle.std.specs.Prelude.{◌≡◌, ◌≢◌, ◌⊎◌, ℕ, ◌+◌, ◌≤◌, Bool, true, List, [], ◌∷◌, ◌++◌, length, Option, Some, IsSome, Result, Ok, Err, OnOk}
use Rattle.connections.specs.Events.{connections}
use Rattle.sessions.specs.Sessions.{Act, Did, Hall, client_at}
use Rattle.serving.specs.declared.{serve.ServingFault.ServingFault, serve.ServingFault.TheVariants.Poll, server.Server.Server, server.TheConstants.STEPS}
use Rattle.serving.specs.{Acting.Allows, Acting.are_acts_of, Acting.are_within, Acting.joins, Acting.limits_behind, Noting.IsKept, Noting.Noted, Polls.waits_of}
use Rattle.serving.specs.{Resting.AllRest, Resting.Listened, Resting.Looked, Resting.TakeTurns, Sockets.Carries, Sockets.HadCauses, Spins.Waits}

-- The steps of one client: acts of that client alone, as many as it has steps, and its leave if it is gone; and at least one where it moved.
pub record StepsOf (c : ℕ) (moved : Type 0) (old new : Server) (old_hall new_hall : Hall) : Type 0 where
  pub acts : List Act
  pub few : length acts ≤ STEPS + 1
  pub stays : IsSome (client_at new_hall c) → length acts ≤ STEPS
  pub own : are_acts_of c acts ≡ true
  pub some : moved → acts ≢ []
  pub did : Did old_hall acts new_hall
  pub carries : Carries acts old new

-- The steps of the clients below a number, each in its turn: nobody comes.
pub record Stepped (n : ℕ) (moved : Type 0) (old new : Server) (old_hall new_hall : Hall) : Type 0 where
  pub acts : List Act
  pub nobody : joins acts ≡ 0
  pub some : moved → acts ≢ []
  pub did : Did old_hall acts new_hall
  pub carries : Carries acts old new
  pub turns : TakeTurns n acts new.peers new_hall

-- These acts, which are within the limits, lead from one server and its hall to another, with the bytes that its sockets took and gave.
pub record Led (acts : List Act) (old new : Server) (old_hall new_hall : Hall) : Type 0 where
  pub did : Did old_hall acts new_hall
  pub places : are_within old.limits.places acts ≡ true
  pub most : Allows old.limits.clients (joins acts)
  pub left : new.limits ≡ limits_behind old.limits (joins acts)
  pub carries : Carries acts old new

-- A round is these acts: who waits at the listener is let in, if one can be, and each client has its turn. Nobody is thrown out without a
-- cause, and the system isn't asked what is new.
pub record Round (acts : List Act) (old new : Server) (old_hall new_hall : Hall) : Type 0 where
  pub led : Led acts old new old_hall new_hall
  pub turns : TakeTurns connections acts new.peers new_hall
  pub looked : Looked old new old_hall
  pub listened : Listened old new old_hall
  pub causes : HadCauses new old_hall new_hall
  pub polls : waits_of new.polls ≡ waits_of old.polls
  pub spin : new.spin ≡ old.spin

-- A round, and then the server asks what is new: at once where there was an act, and where all rest, for a time or until something is.
pub record Turn (acts : List Act) (old new : Server) (old_hall new_hall : Hall) : Type 0 where
  -- behind the round
  pub mid : Server
  pub round : Round acts old mid old_hall new_hall
  pub most : Option ℕ
  pub why : ((most ≡ Some 0) × (acts ≢ [])) ⊎ ((most ≢ Some 0) × AllRest mid new_hall)
  pub waits : Waits most mid new
  pub noted : Noted mid new
  pub kept : IsKept mid new

-- What one pass of the loop does, by its answer: these acts, in a turn, or in a last round without a wait, unless the system doesn't report
-- what is new.
pub record Turned (answer : Result Bool ServingFault) (acts : List Act) (old new : Server) (old_hall new_hall : Hall) : Type 0 where
  pub led : Led acts old new old_hall new_hall
  pub turn : answer ≡ Ok true → Turn acts old new old_hall new_hall
  pub last : answer ≢ Ok true → answer ≢ Err Poll → Round acts old new old_hall new_hall

-- Turns lead from one server and its hall to another, by those before each turn with the turn's acts, the last of them named first.
abbrev pub Turns : List (Server × Hall × List Act) → Server → Hall → Server → Hall → Type 0
Turns [] old old_hall new new_hall = (new ≡ old) × (new_hall ≡ old_hall)
Turns (mid ∷ before) old old_hall new new_hall = Turns before old old_hall mid.0 mid.1 × Turn mid.2 mid.0 new mid.1 new_hall

-- all acts of turns
abbrev pub acts_of : List (Server × Hall × List Act) → List Act
acts_of [] = []
acts_of (mid ∷ before) = acts_of before ++ mid.2

-- Turns, and then a round behind which it ends without a wait, unless the system doesn't report what is new. It ends by itself only where
-- no more are to come, or none may be there for no time, or where it had looked before that none was. All its acts are those of the turns and
-- those behind them.
pub record Ran {A : Type 0} (answer : Result A ServingFault) (acts : List Act) (old new : Server) (old_hall new_hall : Hall) : Type 0 where
  pub led : Led acts old new old_hall new_hall
  pub before : List (Server × Hall × List Act)
  pub mid : Server
  pub mid_hall : Hall
  pub turns : Turns before old old_hall mid mid_hall
  pub behind : List Act
  pub all : acts ≡ acts_of before ++ behind
  pub rest : Led behind mid new mid_hall new_hall
  pub last : answer ≢ Err Poll → Round behind mid new mid_hall new_hall
  pub why : OnOk answer ((new.limits.clients ≡ Some 0) ⊎ IsSome mid.alone_since ⊎ (new.limits.idle ≡ Some 0))
