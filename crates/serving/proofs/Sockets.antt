-- The bytes of sockets, from act to act, and why sockets are closed.
use Rattle.std.proofs.Common.{◌≡◌, ◌≢◌, ◌⊎◌, ℕ, ◌<◌, Bool, true, false, if◌then◌else◌, List, [], ◌∷◌, ◌++◌, length, map, Option, None, Some, IsSome}
use Rattle.std.proofs.Common.{slice_index_or, slice_set, get_or-set_other, get_or-set_same, append_assoc, append-nil, refl, sym, ap, ◌∙◌, inl, inr, arith}
use Rattle.std.{proofs.lemmas.Bool.Decides.eqb_tells, specs.Option.is_some, specs.Option.option_map, proofs.lemmas.Bool.and_parts, proofs.Common.ne_eqb}
use Rattle.connections.specs.Events.{connections}
use Rattle.mio.specs.declared.event.event.Event.{Event}
use Rattle.sessions.specs.Sessions.{Act, Did, Hall, Joins, Leaves, client_at}
use Rattle.sessions.specs.Reaching.{ActsInARow, came, came_by, went, went_by}
use Rattle.serving.specs.{Guarding.given_by, Guarding.taken_by}
use Rattle.serving.specs.{Noting.IsFresh, Noting.is_of, Noting.noted, Noting.noted_all, Noting.noted_at, declared.departures.Departures.Departures}
use Rattle.serving.specs.{Acting.Carried, Acting.are_acts_of, Acting.is_act_of, declared.server.TheConstants.STEPS, declared.server.Server.Server}
use Rattle.serving.specs.{declared.peers.Peers.Peers, declared.peer.Peer.Peer, Resting.Seated, Resting.peer_at, Turns.StepsOf}
use Rattle.serving.specs.Sockets.{Carries, WasOver, bytes_behind, closed, of_number, received_at, sent_at, sockets_at, with_bytes, with_newcomer, with_open}
use Rattle.serving.proofs.Acting as acting

-- ---- bytes behind acts

behind_append : (c : ℕ) (brings : Act → List ℕ) (xs ys : List Act) (l : List (List ℕ))
    → bytes_behind c brings (xs ++ ys) l ≡ bytes_behind c brings ys (bytes_behind c brings xs l)
behind_append c brings [] ys l = refl
behind_append c brings (x ∷ xs) ys l = behind_append c brings xs ys (with_bytes (brings x) (with_newcomer c x l))

no_more_bytes : (l : List (List ℕ)) → with_bytes [] l ≡ l
no_more_bytes [] = refl
no_more_bytes (last ∷ before) = ap (λ x. x ∷ before) (append-nil last)

no_newcomer : (c d : ℕ) (a : Act) (l : List (List ℕ)) → is_act_of c a ≡ true → with_newcomer d a l ≡ l
no_newcomer c d (Joins e) l own = cc
no_newcomer c d a l own = refl

-- all that acts bring
abbrev total : (Act → List ℕ) → List Act → List ℕ
total brings [] = []
total brings (a ∷ acts) = brings a ++ total brings acts

came_total : (c : ℕ) (acts : List Act) → came c acts ≡ total (came_by c) acts
came_total c [] = refl
came_total c (a ∷ acts) = ap (λ l. came_by c a ++ l) (came_total c acts)

went_total : (c : ℕ) (acts : List Act) → went c acts ≡ total (went_by c) acts
went_total c [] = refl
went_total c (a ∷ acts) = ap (λ l. went_by c a ++ l) (went_total c acts)

-- to a client that stays
behind_own : (c : ℕ) (brings : Act → List ℕ) (acts : List Act) (x : List ℕ) (l : List (List ℕ)) → are_acts_of c acts ≡ true
    → bytes_behind c brings acts (x ∷ l) ≡ (x ++ total brings acts) ∷ l
behind_own c brings [] x l own = ap (λ y. y ∷ l) (sym (append-nil x))
behind_own c brings (a ∷ acts) x l own =
    let parts = and_parts (is_act_of c a) (are_acts_of c acts) own in
    simp (no_newcomer c c a (x ∷ l) parts.0, behind_own c brings acts (x ++ brings a) l parts.1, append_assoc)

-- to those of another number
behind_other : (c d : ℕ) (brings : Act → List ℕ) (acts : List Act) (l : List (List ℕ)) → ((a : Act) → is_act_of c a ≡ true → brings a ≡ [])
    → are_acts_of c acts ≡ true → bytes_behind d brings acts l ≡ l
behind_other c d brings [] l none own = refl
behind_other c d brings (a ∷ acts) l none own =
    let parts = and_parts (is_act_of c a) (are_acts_of c acts) own in
    rw (none a parts.0, no_newcomer c d a l parts.0, no_more_bytes l) (behind_other c d brings acts l none parts.1)

-- ---- acts of one client, and what its socket has before and behind them

carried_bytes : (view : Peer → List ℕ) (brings : ℕ → Act → List ℕ) (c : ℕ) (acts : List Act) (old new : ℕ → List Peer) (before after : Peer)
    (rest : List Peer) → ((d : ℕ) (a : Act) → d ≢ c → is_act_of c a ≡ true → brings d a ≡ []) → are_acts_of c acts ≡ true
    → old c ≡ before ∷ rest → new c ≡ after ∷ rest → ((d : ℕ) → d ≢ c → new d ≡ old d)
    → view after ≡ view before ++ total (brings c) acts → (d : ℕ) → map view (new d) ≡ bytes_behind d (brings d) acts (map view (old d))
carried_bytes view brings c acts old new before after rest none own was is others bytes d =
    elim (eqb_tells d c) as (λ _. map view (new d) ≡ bytes_behind d (brings d) acts (map view (old d))) [
      | inl same ↦ rw (same.1, is, was, bytes) (sym (behind_own c (brings c) acts (view before) (map view rest) own))
      | inr other ↦ rw (others d other.1) (sym (behind_other c d (brings d) acts (map view (old d)) (λ a. none d a other.1) own))
    ]

carried_by : (c : ℕ) (acts : List Act) (old new : Server) (before after : Peer) (rest : List Peer) → are_acts_of c acts ≡ true
    → sockets_at c old ≡ before ∷ rest → sockets_at c new ≡ after ∷ rest → ((d : ℕ) → d ≢ c → sockets_at d new ≡ sockets_at d old)
    → given_by after.socket ≡ given_by before.socket ++ came c acts
    → taken_by after.socket ≡ taken_by before.socket ++ went c acts → Carries acts old new
carried_by c acts old new before after rest own was is others received sent = record {
  received = carried_bytes (λ (p : Peer). given_by p.socket) came_by c acts (λ d. sockets_at d old) (λ d. sockets_at d new) before after rest
      (acting.came_other c) own was is others (rw (← came_total c acts) received);
  sent = carried_bytes (λ (p : Peer). taken_by p.socket) went_by c acts (λ d. sockets_at d old) (λ d. sockets_at d new) before after rest
      (acting.went_other c) own was is others (rw (← went_total c acts) sent);
}

-- ---- where sockets are

peer_set : (old new : Peers) (c : ℕ) (x : Option Peer) → c < connections → length old.peers ≡ connections
    → new.peers ≡ slice_set old.peers c x → peer_at new c ≡ x
peer_set old new c x small count put =
    ap (λ l. slice_index_or l c None) put ∙ get_or-set_same old.peers c x None (omega (arith, small, count))

peer_beside : (old new : Peers) (c d : ℕ) (x : Option Peer) → d ≢ c → new.peers ≡ slice_set old.peers c x → peer_at new d ≡ peer_at old d
peer_beside old new c d x other put = ap (λ l. slice_index_or l d None) put ∙ get_or-set_other old.peers c d x None other

of_last : (c : ℕ) (peer : Peer) (before : List (ℕ × Peer)) → of_number c ((c, peer) ∷ before) ≡ peer ∷ of_number c before
of_last c peer before = rw (acting.same c) refl

of_other : (c d : ℕ) (peer : Peer) (before : List (ℕ × Peer)) → d ≢ c → of_number d ((c, peer) ∷ before) ≡ of_number d before
of_other c d peer before other = rw (ne_eqb c d (λ e. other (sym e))) refl

-- ---- the steps of one client

-- its bytes are those of the steps also where more is known of the socket
pub carried_as : (c most : ℕ) (moved : Type 0) (old new : Hall) (before after later : Peer) → later.socket ≡ after.socket
    → Carried c most moved old new before after → Carried c most moved old new before later
carried_as c most moved old new before after later same it = record {
  acts = it.acts;
  few = it.few;
  own = it.own;
  some = it.some;
  did = it.did;
  received = ap given_by same ∙ it.received;
  sent = ap taken_by same ∙ it.sent;
}

-- behind which it is there
pub steps_there : (c : ℕ) (M N : Type 0) (old new : Server) (mid : Peers) (old_hall new_hall : Hall) (before after : Peer) → c < connections
    → Some before ≡ peer_at old.peers c → mid.peers ≡ slice_set old.peers.peers c None → length mid.peers ≡ connections
    → new.peers.peers ≡ slice_set mid.peers c (Some after) → new.left ≡ old.left → (N → M)
    → Carried c STEPS M old_hall new_hall before after → StepsOf c N old new old_hall new_hall
steps_there c M N old new mid old_hall new_hall before after small is taken count put left moved it = record {
  acts = it.acts;
  few = omega (arith, it.few);
  stays = λ there. it.few;
  own = it.own;
  some = λ n. it.some (moved n);
  did = it.did;
  carries = carried_by c it.acts old new before after (of_number c (closed old.left)) it.own (rw (← is))
      (rw (peer_set mid new.peers c (Some after) small count put, left))
      (λ d other. rw (peer_beside mid new.peers c d (Some after) other put, peer_beside old.peers mid c d None other taken, left))
      it.received it.sent;
}

-- a client that has a socket is there
is_there : (c : ℕ) (peers : Peers) (h : Hall) (peer : Peer) → Seated peers h → Some peer ≡ peer_at peers c → is_some (client_at h c) ≡ true
is_there c peers h peer seated is = sym (seated c) ∙ ap is_some (sym is)

-- and behind which it has left
pub steps_away : ActsInARow → (c : ℕ) (M N : Type 0) (old new : Server) (old_hall mid_hall new_hall : Hall) (before after : Peer) → c < connections
    → Seated old.peers old_hall → Some before ≡ peer_at old.peers c → new.peers.peers ≡ slice_set old.peers.peers c None
    → length old.peers.peers ≡ connections → closed new.left ≡ (c, after) ∷ closed old.left
    → is_some (client_at mid_hall c) ≡ is_some (client_at old_hall c) → (IsSome (client_at mid_hall c) → Did mid_hall (Leaves c ∷ []) new_hall)
    → client_at new_hall c ≡ None → Carried c STEPS M old_hall mid_hall before after → StepsOf c N old new old_hall new_hall
steps_away row c M N old new old_hall mid_hall new_hall before after small seated is taken count left stays leave gone it =
    let own = acting.acts_append c it.acts (Leaves c ∷ []) it.own (acting.own_leave c) in record {
      acts = it.acts ++ Leaves c ∷ [];
      few = acting.length_few it.acts (Leaves c ∷ []) STEPS 1 it.few (omega arith);
      stays = λ there. (let never = rw gone at there in cc);
      own = own;
      some = λ n. acting.some_back it.acts (Leaves c ∷ []) (λ e. cc);
      did = row.more old_hall mid_hall new_hall it.acts (Leaves c ∷ []) it.did (leave (stays ∙ is_there c old.peers old_hall before seated is));
      carries = carried_by c (it.acts ++ Leaves c ∷ []) old new before after (of_number c (closed old.left)) own (rw (← is))
          (rw (peer_set old.peers new.peers c None small count taken, left) (of_last c after (closed old.left)))
          (λ d other. rw (peer_beside old.peers new.peers c d None other taken, left, of_other c d after (closed old.left) other))
          (rw (acting.came_append c it.acts (Leaves c ∷ []), append-nil (came c it.acts)) it.received)
          (rw (acting.went_append c it.acts (Leaves c ∷ []), append-nil (went c it.acts)) it.sent);
    }

-- ---- why it has left

-- a client that has a socket is over only where that is
pub is_over : (c : ℕ) (peers : Peers) (h : Hall) (peer : Peer) (Over : Type 0) → Seated peers h → Some peer ≡ peer_at peers c
    → (is_some (client_at h c) ≡ false) ⊎ Over → Over
is_over c peers h peer Over seated is (inl none) = absurd (let never : true ≡ false = sym (is_there c peers h peer seated is) ∙ none in cc)
is_over c peers h peer Over seated is (inr over) = over

pub over_now : (c : ℕ) (left : Departures) (unkept : Bool) (peer : Peer) (before : List (ℕ × Peer)) → closed left ≡ (c, peer) ∷ before
    → peer.over ≡ true → WasOver (of_number c (closed left)) ⊎ (unkept ≡ true)
over_now c left unkept peer before is over = inl (rw (is, of_last c peer before) over)

-- and so has whoever had left before
pub caused_on : (c d : ℕ) (left : Departures) (unkept : Bool) (peer : Peer) (before : List (ℕ × Peer)) → closed left ≡ (c, peer) ∷ before
    → peer.over ≡ true → WasOver (of_number d before) ⊎ (unkept ≡ true) → WasOver (of_number d (closed left)) ⊎ (unkept ≡ true)
caused_on c d left unkept peer before is over was = elim (eqb_tells d c) as (λ _. WasOver (of_number d (closed left)) ⊎ (unkept ≡ true)) [
  | inl same ↦ rw same.1 (over_now c left unkept peer before is over)
  | inr other ↦ rw (is, of_other c d peer before other.1) was
]

-- ---- one act after another

pub carries_then : (xs ys : List Act) (first second third : Server) → Carries xs first second → Carries ys second third → Carries (xs ++ ys) first third
carries_then xs ys first second third before later = record {
  received = λ c. later.received c ∙ ap (bytes_behind c (came_by c) ys) (before.received c) ∙ sym (behind_append c (came_by c) xs ys (received_at c first));
  sent = λ c. later.sent c ∙ ap (bytes_behind c (went_by c) ys) (before.sent c) ∙ sym (behind_append c (went_by c) xs ys (sent_at c first));
}

-- and then nothing
pub carries_on : (acts : List Act) (first second third : Server) → Carries acts first second → Carries [] second third → Carries acts first third
carries_on acts first second third before later =
    record { received = λ c. later.received c ∙ before.received c; sent = λ c. later.sent c ∙ before.sent c }

-- where sockets are the same
pub carries_none : (old new : Server) → new.peers ≡ old.peers → new.left ≡ old.left → Carries [] old new
carries_none old new peers left = record { received = λ c. rw (peers, left); sent = λ c. rw (peers, left) }

-- ---- who comes

come_here : (c : ℕ) (brings : Act → List ℕ) (l : List (List ℕ)) → brings (Joins c) ≡ [] → bytes_behind c brings (Joins c ∷ []) l ≡ [] ∷ l
come_here c brings l none = rw (none, acting.same c)

come_beside : (c d : ℕ) (brings : Act → List ℕ) (l : List (List ℕ)) → brings (Joins c) ≡ [] → d ≢ c → bytes_behind d brings (Joins c ∷ []) l ≡ l
come_beside c d brings l none other = rw (none, ne_eqb c d (λ e. other (sym e))) (no_more_bytes l)

newcomer_bytes : (view : Peer → List ℕ) (brings : ℕ → Act → List ℕ) (c : ℕ) (old new : ℕ → List Peer) (peer : Peer) → ((d : ℕ) → brings d (Joins c) ≡ [])
    → view peer ≡ [] → new c ≡ peer ∷ old c → ((d : ℕ) → d ≢ c → new d ≡ old d)
    → (d : ℕ) → map view (new d) ≡ bytes_behind d (brings d) (Joins c ∷ []) (map view (old d))
newcomer_bytes view brings c old new peer none fresh is others d =
    elim (eqb_tells d c) as (λ _. map view (new d) ≡ bytes_behind d (brings d) (Joins c ∷ []) (map view (old d))) [
      | inl same ↦ rw (same.1, is, fresh) (sym (come_here c (brings c) (map view (old c)) (none c)))
      | inr other ↦ rw (others d other.1) (sym (come_beside c d (brings d) (map view (old d)) (none d) other.1))
    ]

pub carries_newcomer : (c : ℕ) (old new : Server) (h : Hall) (peer : Peer) → c < connections → Seated old.peers h → client_at h c ≡ None → IsFresh peer
    → length old.peers.peers ≡ connections → new.peers.peers ≡ slice_set old.peers.peers c (Some peer) → new.left ≡ old.left → Carries (Joins c ∷ []) old new
carries_newcomer c old new h peer small seated free fresh count put left =
    let vacant : peer_at old.peers c ≡ None = acting.none_of (peer_at old.peers c) (seated c ∙ ap is_some free) in
    let is : sockets_at c new ≡ peer ∷ sockets_at c old = rw (peer_set old.peers new.peers c (Some peer) small count put, vacant, left) in
    let others : (d : ℕ) → d ≢ c → sockets_at d new ≡ sockets_at d old = λ d other.
    rw (peer_beside old.peers new.peers c d (Some peer) other put, left) in record {
      received = newcomer_bytes (λ (p : Peer). given_by p.socket) came_by c (λ d. sockets_at d old) (λ d. sockets_at d new) peer (λ d. refl)
          fresh.received is others;
      sent = newcomer_bytes (λ (p : Peer). taken_by p.socket) went_by c (λ d. sockets_at d old) (λ d. sockets_at d new) peer (λ d. refl)
          fresh.sent is others;
    }

-- ---- what asking the system leaves

noted_by : (view : Peer → List ℕ) (e : Event) → ((p : Peer) → view (noted e p) ≡ view p) → (here : Bool) (x : Option Peer) (rest : List Peer)
    → map view (with_open (if here then option_map (noted e) x else x) rest) ≡ map view (with_open x rest)
noted_by view e same true None rest = refl
noted_by view e same true (Some p) rest = ap (λ y. y ∷ map view rest) (same p)
noted_by view e same false x rest = refl

noted_bytes : (view : Peer → List ℕ) → ((e : Event) (p : Peer) → view (noted e p) ≡ view p) → (c : ℕ) (events : List Event) (x : Option Peer)
    (rest : List Peer) → map view (with_open (noted_all c events x) rest) ≡ map view (with_open x rest)
noted_bytes view same c [] x rest = refl
noted_bytes view same c (e ∷ events) x rest =
    noted_bytes view same c events (noted_at c x e) rest ∙ noted_by view e (same e) (is_of c e) x rest

pub carries_noted : (old new : Server) (events : List Event) → ((c : ℕ) → peer_at new.peers c ≡ noted_all c events (peer_at old.peers c))
    → new.left ≡ old.left → Carries [] old new
carries_noted old new events noted left = record {
  received = λ c. rw (noted c, left)
      (noted_bytes (λ (p : Peer). given_by p.socket) (λ e p. refl) c events (peer_at old.peers c) (of_number c (closed old.left)));
  sent = λ c. rw (noted c, left)
      (noted_bytes (λ (p : Peer). taken_by p.socket) (λ e p. refl) c events (peer_at old.peers c) (of_number c (closed old.left)));
}
