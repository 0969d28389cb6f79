-- Acts in a row.
use Rattle.std.proofs.Common.{◌≡◌, ◌≢◌, ◌⊎◌, ℕ, ◌+◌, ◌-◌, ◌≤◌, ◌==◌, length, length-append, append_assoc, append-nil, true, false, List, [], ◌∷◌}
use Rattle.std.proofs.Common.{◌++◌, Option, None, Some, zero, suc, replicate, slice_index_or, eqb-true, refl, ap, ◌∙◌, subst, sym, inl, inr, arith}
use Rattle.std.proofs.lemmas.Bool.{and_parts, Decides.eqb_tells}
use Rattle.std.specs.{Option.option_map, Option.is_some, Option.IsSome, Cmp.Derive.both_true}
use Rattle.connections.specs.Events.{connections}
use Rattle.sessions.specs.Sessions.{Client, Hall, client_at, Act, Joins, Sends, Gets, Leaves}
use Rattle.sessions.specs.{Advances.is_step_of, Advances.are_steps_of, Advances.Advanced, Advances.Moves, Reaching.ActsInARow, Reaching.came, Reaching.came_by}
use Rattle.sessions.specs.{Reaching.went, Reaching.went_by, declared.sessions.Advance.Advance, declared.sessions.Advance.TheVariants.Moved}
use Rattle.serving.specs.{Guarding.given_by, Guarding.taken_by}
use Rattle.serving.specs.declared.{server.Limits.Limits, peers.Peers.Peers, peer.Peer.Peer}
use Rattle.serving.specs.Resting.{AreNone, Ends, Seated, peer_at}
use Rattle.serving.specs.Acting.{Ended, is_act_of, are_acts_of, Carried, joins_by, joins, is_within, are_within, Allows, limits_behind}

-- ---- tests over lists of acts

pub joins_append : (xs ys : List Act) → joins (xs ++ ys) ≡ joins xs + joins ys
joins_append [] ys = omega arith
joins_append (x ∷ xs) ys = let rest = joins_append xs ys in omega (arith, rest)

pub within_append : (n : ℕ) (xs ys : List Act) → are_within n xs ≡ true → are_within n ys ≡ true → are_within n (xs ++ ys) ≡ true
within_append n [] ys p q = q
within_append n (x ∷ xs) ys p q = let parts = and_parts _ _ p in both_true parts.0 (within_append n xs ys parts.1 q)

pub some_front : (xs ys : List Act) → xs ≢ [] → (xs ++ ys) ≢ []
some_front [] ys some e = some refl
some_front (x ∷ xs) ys some e = cc

pub some_back : (xs ys : List Act) → ys ≢ [] → (xs ++ ys) ≢ []
some_back [] ys some e = some e
some_back (x ∷ xs) ys some e = cc

pub length_few : (xs ys : List Act) (m n : ℕ) → length xs ≤ m → length ys ≤ n → length (xs ++ ys) ≤ m + n
length_few xs ys m n p q = omega (arith, length-append xs ys, p, q)

-- ---- acts of one client that is there

act_of_step : (c : ℕ) (a : Act) → is_step_of c a ≡ true → is_act_of c a ≡ true
act_of_step c (Joins d) h = cc
act_of_step c (Leaves d) h = cc
act_of_step c a h = h

acts_of_steps : (c : ℕ) (acts : List Act) → are_steps_of c acts ≡ true → are_acts_of c acts ≡ true
acts_of_steps c [] h = refl
acts_of_steps c (a ∷ acts) h = let parts = and_parts _ _ h in both_true (act_of_step c a parts.0) (acts_of_steps c acts parts.1)

pub acts_append : (c : ℕ) (xs ys : List Act) → are_acts_of c xs ≡ true → are_acts_of c ys ≡ true → are_acts_of c (xs ++ ys) ≡ true
acts_append c [] ys p q = q
acts_append c (x ∷ xs) ys p q = let parts = and_parts _ _ p in both_true parts.0 (acts_append c xs ys parts.1 q)

pub same : (c : ℕ) → (c == c) ≡ true
same c = grind arith

pub own_leave : (c : ℕ) → are_acts_of c (Leaves c ∷ []) ≡ true
own_leave c = both_true (same c) refl

nobody_by : (c : ℕ) (a : Act) → is_act_of c a ≡ true → joins_by a ≡ 0
nobody_by c (Joins d) h = cc
nobody_by c a h = refl

pub nobody_comes : (c : ℕ) (acts : List Act) → are_acts_of c acts ≡ true → joins acts ≡ 0
nobody_comes c [] h = refl
nobody_comes c (a ∷ acts) h =
    let parts = and_parts (is_act_of c a) (are_acts_of c acts) h in omega (arith, nobody_by c a parts.0, nobody_comes c acts parts.1)

within_by : (n : ℕ) (a : Act) → joins_by a ≡ 0 → is_within n a ≡ true
within_by n (Joins c) h = absurd (omega (arith, h))
within_by n a h = refl

pub nobody_within : (n : ℕ) (acts : List Act) → joins acts ≡ 0 → are_within n acts ≡ true
nobody_within n [] h = refl
nobody_within n (a ∷ acts) h = both_true (within_by n a (omega (arith, h))) (nobody_within n acts (omega (arith, h)))

-- ---- what acts of one client lead to

moves_some : (c : ℕ) (old : Hall) (acts : List Act) → Moves c old acts → acts ≢ []
moves_some c old acts (inl gets) none = cc
moves_some c old acts (inr (inl asks)) none = cc
moves_some c old acts (inr (inr sends)) none = cc

-- acts of one client bring another nothing
pub other_act : (c d : ℕ) → d ≢ c → (e : ℕ) → (e == c) ≡ true → (e == d) ≡ false
other_act c d other e is = elim (eqb_tells e d) as (λ _. (e == d) ≡ false) [
  | inl same ↦ absurd (other (sym same.1 ∙ eqb-true e c is))
  | inr not ↦ not.0
]

pub came_other : (c d : ℕ) (a : Act) → d ≢ c → is_act_of c a ≡ true → came_by d a ≡ []
came_other c d (Sends e bytes) other own = rw (other_act c d other e own) refl
came_other c d a other own = refl

pub went_other : (c d : ℕ) (a : Act) → d ≢ c → is_act_of c a ≡ true → went_by d a ≡ []
went_other c d (Gets e bytes) other own = rw (other_act c d other e own) refl
went_other c d a other own = refl

pub came_append : (c : ℕ) (xs ys : List Act) → came c (xs ++ ys) ≡ came c xs ++ came c ys
came_append c [] ys = refl
came_append c (x ∷ xs) ys = simp (came_append c xs ys, append_assoc)

pub went_append : (c : ℕ) (xs ys : List Act) → went c (xs ++ ys) ≡ went c xs ++ went c ys
went_append c [] ys = refl
went_append c (x ∷ xs) ys = simp (went_append c xs ys, append_assoc)

pub nothing_carried : ActsInARow → (c most : ℕ) (h : Hall) (peer : Peer) → Carried c most ⊥ h h peer peer
nothing_carried row c most h peer = record {
  acts = [];
  few = omega arith;
  own = refl;
  some = λ never. absurd never;
  did = row.none h;
  received = sym (append-nil (given_by peer.socket));
  sent = sym (append-nil (taken_by peer.socket));
}

-- and one step more
pub carried_on : ActsInARow → (answer : Advance) (c m n : ℕ) (M N : Type 0) (first old new : Hall) (start before after : Peer) → m + 1 ≤ n
    → (N → answer ≡ Moved) → Carried c m M first old start before
    → Advanced answer c old new (given_by before.socket) (given_by after.socket) (taken_by before.socket) (taken_by after.socket)
    → Carried c n N first new start after
carried_on row answer c m n M N first old new start before after le moved front step = record {
  acts = front.acts ++ step.acts;
  few = omega (arith, le, length_few front.acts step.acts m 1 front.few step.one);
  own = acts_append c front.acts step.acts front.own (acts_of_steps c step.acts step.own);
  some = λ it. some_back front.acts step.acts (moves_some c old step.acts (step.moved (moved it)));
  did = row.more first old new front.acts step.acts front.did step.did;
  received = simp (step.received, front.received, came_append, append_assoc);
  sent = simp (step.sent, front.sent, went_append, append_assoc);
}

-- a client that is over was never there, or its socket is
pub over_since : (before now : Option Client) (Over : Type 0) → is_some now ≡ is_some before → (now ≡ None) ⊎ Over → (is_some before ≡ false) ⊎ Over
over_since before now Over stays (inl none) = inl (sym stays ∙ ap is_some none)
over_since before now Over stays (inr over) = inr over

-- ---- limits

none_less : (x : Option ℕ) → option_map (λ most. most - 0) x ≡ x
none_less None = refl
none_less (Some most) = ap Some (omega arith)

pub limits_same : (l : Limits) → limits_behind l 0 ≡ l
limits_same l = ap (λ x. record l { clients = x }) (none_less l.clients)

less_twice : (x : Option ℕ) (m n : ℕ) → option_map (λ most. most - n) (option_map (λ most. most - m) x) ≡ option_map (λ most. most - (m + n)) x
less_twice None m n = refl
less_twice (Some most) m n = ap Some (omega arith)

pub limits_twice : (l : Limits) (m n : ℕ) → limits_behind (limits_behind l m) n ≡ limits_behind l (m + n)
limits_twice l m n = ap (λ x. record l { clients = x }) (less_twice l.clients m n)

pub allows_none : (x : Option ℕ) → Allows x 0
allows_none None = tt
allows_none (Some most) = omega arith

pub allows_twice : (x : Option ℕ) (m n : ℕ) → Allows x m → Allows (option_map (λ most. most - m) x) n → Allows x (m + n)
allows_twice None m n p q = tt
allows_twice (Some most) m n p q = omega (arith, p, q)

-- ---- serving

none_left : (x : Option ℕ) (n : ℕ) → Allows x n → option_map (λ most. most - n) x ≡ Some 0 → x ≡ Some n
none_left None n allowed none = cc
none_left (Some most) n allowed none = let zero : most - n ≡ 0 = cc in ap Some (omega (arith, allowed, zero))

pub none_of : {A : Type 0} (x : Option A) → is_some x ≡ false → x ≡ None
none_of None h = refl
none_of (Some x) h = cc

pub ended : (l after : Limits) (n : ℕ) (peers : Peers) (h : Hall) → Allows l.clients n → after ≡ limits_behind l n → Seated peers h
    → AreNone peers × Ends after → Ended l n h
ended l after n peers h allowed left seated none = record {
  nobody = λ c small. none_of (client_at h c) (sym (seated c) ∙ ap is_some (none.0 c small));
  why = elim none.1 [
    | inl all ↦ inl (none_left l.clients n allowed (ap (λ (x : Limits). x.clients) (sym left) ∙ all))
    | inr idle ↦ inr (subst (λ (x : Limits). IsSome x.idle) left idle)
  ];
}

-- ---- nobody is there

nobody_at : (A : Type 0) (n c : ℕ) → is_some (slice_index_or (replicate {A = Option A} n None) c None) ≡ false
nobody_at A zero c = refl
nobody_at A (suc n) zero = refl
nobody_at A (suc n) (suc c) = nobody_at A n c

pub none_there : (peers : Peers) → peers.peers ≡ replicate connections None → (c : ℕ) → peer_at peers c ≡ None
none_there peers none c = rw none (none_of _ (nobody_at Peer connections c))

pub seated_none : (peers : Peers) (h : Hall) → peers.peers ≡ replicate connections None → h.clients ≡ replicate connections None → Seated peers h
seated_none peers h none empty c = rw (none, empty) (nobody_at Peer connections c ∙ sym (nobody_at Client connections c))
