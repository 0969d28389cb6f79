-- Who rests, from client to client, and that clients and sockets belong together.
use Rattle.std.proofs.Common.{◌≡◌, ◌≢◌, ℕ, ◌+◌, ◌<◌, Bool, false, ◌||◌, Option, None, Some, refl, sym, ◌∙◌, inl, inr, arith}
use Rattle.std.proofs.lemmas.Bool.{Decides.eqb_tells, or_parts}
use Rattle.sessions.specs.Sessions.{Client, Hall, client_at}
use Rattle.serving.specs.{declared.server.Server.Server, Sockets.HadCause, Sockets.HadCauses, declared.peers.Peers.Peers}
use Rattle.serving.specs.Resting.{peer_at, RestsWatched, RestBelow, OthersKept, Looked, NoMore}

one_more : (n : ℕ) (old_peers new_peers : Peers) (old new : Hall) → RestBelow n old_peers old
    → RestsWatched (client_at new n) (peer_at new_peers n) → OthersKept n old_peers new_peers old new → RestBelow (n + 1) new_peers new
one_more n old_peers new_peers old new below here kept c small = elim (eqb_tells c n) as (λ _. RestsWatched (client_at new c) (peer_at new_peers c)) [
  | inl same ↦ rw same.1 here
  | inr other ↦
      let less : c < n = let ne = other.1 in omega (arith, small, ne) in
      rw (kept.clients c other.1, kept.peers c other.1) (below c less)
]

pub steps_more : (moved stepped : Bool) (n : ℕ) (old_peers new_peers : Peers) (old new : Hall) → (moved ≡ false → RestBelow n old_peers old)
    → (stepped ≡ false → RestsWatched (client_at new n) (peer_at new_peers n)) → OthersKept n old_peers new_peers old new
    → (moved || stepped) ≡ false → RestBelow (n + 1) new_peers new
steps_more moved stepped n old_peers new_peers old new below here kept h =
    let none = or_parts moved stepped h in
    one_more n old_peers new_peers old new (below none.0) (here none.1) kept

-- ---- who leaves

-- at a number is nobody, or somebody
there_or_not : (x : Option Client) (C : Type 0) → (x ≡ None → C) → (x ≢ None → C) → C
there_or_not None C none some = none refl
there_or_not (Some client) C none some = some (λ e. cc)

-- and who leaves at one more number has a cause too
pub causes_more : (n : ℕ) (old_server new_server : Server) (old_peers new_peers : Peers) (first old new : Hall)
    → HadCauses old_server first old → ((d : ℕ) → HadCause d old_server → HadCause d new_server)
    → (client_at old n ≢ None → client_at new n ≡ None → HadCause n new_server) → OthersKept n old_peers new_peers old new → HadCauses new_server first new
causes_more n old_server new_server old_peers new_peers first old new before caused here kept d was gone =
    elim (eqb_tells d n) as (λ _. HadCause d new_server) [
      | inl same ↦ there_or_not (client_at old d) (HadCause d new_server) (λ none. caused d (before d was none))
          (λ some. rw same.1 (here (λ none. some (rw same.1 none)) (rw same.1 at gone)))
      | inr other ↦ caused d (before d was (sym (kept.clients d other.1) ∙ gone))
    ]

-- ---- who isn't let in

-- what steps leave of a server says the same of who waits
pub looked_on : (old mid new : Server) (h : Hall) → new.is_asked ≡ mid.is_asked → new.is_refused ≡ mid.is_refused → Looked old mid h → Looked old new h
looked_on old mid new h asked refused looked = rw (asked, refused) looked

pub no_more_on : (mid new : Server) (h : Hall) → new.is_asked ≡ mid.is_asked → new.limits ≡ mid.limits → new.is_refused ≡ mid.is_refused
    → NoMore mid h → NoMore new h
no_more_on mid new h asked limits refused none = rw (asked, limits, refused) none
