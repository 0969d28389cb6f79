-- Who takes part in acts, and that nobody is passed over, from client to client.
use Rattle.std.proofs.Common.{◌≡◌, ◌≢◌, ◌⊎◌, ℕ, ◌+◌, ◌<◌, ◌≤◌, Bool, true, false, ◌||◌, if◌then◌else◌, List, [], ◌∷◌, ◌++◌, length, Option, None, Some}
use Rattle.std.proofs.Common.{IsSome, Result, Ok, Err, refl, sym, ap, ◌∙◌, subst, inl, inr, arith}
use Rattle.std.proofs.lemmas.Bool.{and_parts, Decides.eqb_tells}
use Rattle.std.specs.{Cmp.Derive.both_true, Duration.as_nanos, Result.OnOk, declared.time.Duration.Duration, declared.time.Instant.Instant}
use Rattle.connections.specs.Events.{connections}
use Rattle.sessions.specs.Sessions.{Act, Hall, Joins, Sends, Asks, Gets, Leaves, client_at}
use Rattle.sessions.specs.Reaching.{ActsInARow}
use Rattle.serving.specs.declared.{peers.Peers.Peers, serve.ServingFault.ServingFault, serve.ServingFault.TheVariants.Poll}
use Rattle.serving.specs.declared.server.{Next.TheVariants.Wait, Server.Server, TheConstants.STEPS}
use Rattle.serving.specs.Acting.{Allows, Came, Serves, are_acts_of, is_act_of, joins, limits_behind}
use Rattle.serving.specs.{Noting.IsKept, Noting.Noted, Polls.nanos, Polls.waits_of, Resting.AllRest, Sockets.Carries, Sockets.HadCauses, Spins.Waits, Turns.Led}
use Rattle.serving.specs.Turns.{Ran, Round, Stepped, StepsOf, Turned, Turns, acts_of}
use Rattle.serving.specs.Resting.{AreNone, Ends, Listened, Looked, NoMore, OthersKept, RestsWatched, Seated, TakeTurns, WaitsFor, WaitsSome, peer_at, share}
use Rattle.serving.proofs.Acting as acting
use Rattle.serving.proofs.Resting as resting
use Rattle.serving.proofs.Sockets as sockets

-- ---- lists of acts

share_append : (c : ℕ) (xs ys : List Act) → share c (xs ++ ys) ≡ share c xs + share c ys
share_append c [] ys = omega arith
share_append c (a ∷ xs) ys = omega (arith, share_append c xs ys)

-- one act counts once at most
one_most : (b : Bool) → (if b then 1 else 0) ≤ 1
one_most true = omega arith
one_most false = omega arith

share_few : (c : ℕ) (acts : List Act) → share c acts ≤ length acts
share_few c [] = omega arith
share_few c (a ∷ acts) = omega (arith, share_few c acts, one_most (is_act_of c a))

-- acts of one client are no other's
not_own : (c d : ℕ) (a : Act) → d ≢ c → is_act_of c a ≡ true → is_act_of d a ≡ false
not_own c d (Joins e) other h = refl
not_own c d (Sends e bytes) other h = acting.other_act c d other e h
not_own c d (Asks e) other h = acting.other_act c d other e h
not_own c d (Gets e bytes) other h = acting.other_act c d other e h
not_own c d (Leaves e) other h = acting.other_act c d other e h

share_other : (c d : ℕ) (acts : List Act) → d ≢ c → are_acts_of c acts ≡ true → share d acts ≡ 0
share_other c d [] other own = refl
share_other c d (a ∷ acts) other own =
    let parts = and_parts (is_act_of c a) (are_acts_of c acts) own in
    rw (not_own c d a other parts.0) (omega (arith, share_other c d acts other parts.1))

share_own : (c : ℕ) (acts : List Act) → acts ≢ [] → are_acts_of c acts ≡ true → 0 < share c acts
share_own c [] some own = absurd (some refl)
share_own c (a ∷ acts) some own = rw ((and_parts (is_act_of c a) (are_acts_of c acts) own).0) (omega arith)

-- ---- turns

pub stood : ActsInARow → (moved : Type 0) (server : Server) (h : Hall) → (moved → ⊥) → Stepped 0 moved server server h h
stood row moved server h never = record {
  acts = [];
  nobody = refl;
  some = λ it. absurd (never it);
  did = row.none h;
  carries = sockets.carries_none server server refl refl;
  turns = record { turns = λ c small. absurd (omega (arith, small)); few = λ c. omega arith; none = λ c past. refl };
}

-- who has its turn now
now : (n : ℕ) (here : Bool) (peers : Peers) (h : Hall) (before later : List Act) → (here ≡ true → later ≢ []) → are_acts_of n later ≡ true
    → (here ≡ false → RestsWatched (client_at h n) (peer_at peers n)) → (0 < share n (before ++ later)) ⊎ RestsWatched (client_at h n) (peer_at peers n)
now n true peers h before later some own rests = inl (omega (arith, share_append n before later, share_own n later (some refl) own))
now n false peers h before later some own rests = inr (rests refl)

-- who had it before
earlier : (n : ℕ) (old_peers new_peers : Peers) (old new : Hall) (before later : List Act) → TakeTurns n before old_peers old
    → OthersKept n old_peers new_peers old new → (c : ℕ) → c ≢ n → c < n + 1
    → (0 < share c (before ++ later)) ⊎ RestsWatched (client_at new c) (peer_at new_peers c)
earlier n old_peers new_peers old new before later taken kept c other small =
    let less : c < n = omega (arith, small, other) in
    elim (taken.turns c less) as (λ _. (0 < share c (before ++ later)) ⊎ RestsWatched (client_at new c) (peer_at new_peers c)) [
      | inl part ↦ inl (omega (arith, part, share_append c before later))
      | inr rests ↦ inr (rw (kept.clients c other, kept.peers c other) rests)
    ]

-- what one more client does is within its share
shares_few : (n : ℕ) (peers : Peers) (old : Hall) (before later : List Act) → TakeTurns n before peers old
    → length later ≤ STEPS + 1 → are_acts_of n later ≡ true → (c : ℕ) → share c (before ++ later) ≤ STEPS + 1
shares_few n peers old before later taken few own c =
    let all = share_append c before later in
    elim (eqb_tells c n) as (λ _. share c (before ++ later) ≤ STEPS + 1) [
      | inl same ↦ (let past : n ≤ c = omega (arith, same.1) in omega (arith, all, taken.none c past, share_few c later, few))
      | inr other ↦ omega (arith, all, share_other n c later other.1 own, taken.few c)
    ]

shares_none : (n : ℕ) (peers : Peers) (old : Hall) (before later : List Act) → TakeTurns n before peers old
    → are_acts_of n later ≡ true → (c : ℕ) → n + 1 ≤ c → share c (before ++ later) ≡ 0
shares_none n peers old before later taken own c past =
    let back = share_other n c later (λ e. omega (arith, past, e)) own in
    omega (arith, share_append c before later, taken.none c (omega (arith, past)), back)

turns_more : (n : ℕ) (here : Bool) (old_peers new_peers : Peers) (old new : Hall) (before later : List Act) → TakeTurns n before old_peers old
    → length later ≤ STEPS + 1 → are_acts_of n later ≡ true → (here ≡ true → later ≢ [])
    → (here ≡ false → RestsWatched (client_at new n) (peer_at new_peers n)) → OthersKept n old_peers new_peers old new
    → TakeTurns (n + 1) (before ++ later) new_peers new
turns_more n here old_peers new_peers old new before later taken few own some rests kept = record {
  turns = λ c small. elim (eqb_tells c n) as (λ _. (0 < share c (before ++ later)) ⊎ RestsWatched (client_at new c) (peer_at new_peers c)) [
    | inl same ↦ rw same.1 (now n here new_peers new before later some own rests)
    | inr other ↦ earlier n old_peers new_peers old new before later taken kept c other.1 small
  ];
  few = shares_few n old_peers old before later taken few own;
  none = shares_none n old_peers old before later taken own;
}

some_of : (moved here : Bool) (xs ys : List Act) → (moved ≡ true → xs ≢ []) → (here ≡ true → ys ≢ []) → (moved || here) ≡ true → (xs ++ ys) ≢ []
some_of true here xs ys front back h = acting.some_front xs ys (front refl)
some_of false here xs ys front back h = acting.some_back xs ys (back h)

-- of one more client
pub stepped_more : ActsInARow → (n : ℕ) (moved here : Bool) (first old new : Server) (first_hall old_hall new_hall : Hall)
    → Stepped n (moved ≡ true) first old first_hall old_hall → StepsOf n (here ≡ true) old new old_hall new_hall
    → (here ≡ false → RestsWatched (client_at new_hall n) (peer_at new.peers n)) → OthersKept n old.peers new.peers old_hall new_hall
    → Stepped (n + 1) ((moved || here) ≡ true) first new first_hall new_hall
stepped_more row n moved here first old new first_hall old_hall new_hall before later rests kept = record {
  acts = before.acts ++ later.acts;
  nobody = omega (arith, acting.joins_append before.acts later.acts, before.nobody, acting.nobody_comes n later.acts later.own);
  some = some_of moved here before.acts later.acts before.some later.some;
  did = row.more first_hall old_hall new_hall before.acts later.acts before.did later.did;
  carries = sockets.carries_then before.acts later.acts first old new before.carries later.carries;
  turns = turns_more n here old.peers new.peers old_hall new_hall before.acts later.acts before.turns later.few later.own later.some rests kept;
}

-- who came first takes none of these turns away
turns_behind : (n c : ℕ) (acts : List Act) (peers : Peers) (h : Hall) → TakeTurns n acts peers h → TakeTurns n (Joins c ∷ acts) peers h
turns_behind n c acts peers h it = record {
  turns = λ d small. elim (it.turns d small) as (λ _. (0 < share d (Joins c ∷ acts)) ⊎ RestsWatched (client_at h d) (peer_at peers d)) [
    | inl part ↦ inl (omega (arith, part))
    | inr rests ↦ inr rests
  ];
  few = λ d. omega (arith, it.few d);
  none = λ d past. omega (arith, it.none d past);
}

-- ---- acts within the limits

pub led_nowhere : ActsInARow → (server : Server) (h : Hall) → Led [] server server h h
led_nowhere row server h = record {
  did = row.none h;
  places = refl;
  most = acting.allows_none server.limits.clients;
  left = sym (acting.limits_same server.limits);
  carries = sockets.carries_none server server refl refl;
}

pub led_then : ActsInARow → (xs ys : List Act) (first second third : Server) (old mid new : Hall) → Led xs first second old mid
    → Led ys second third mid new → Led (xs ++ ys) first third old new
led_then row xs ys first second third old mid new before later = record {
  did = row.more old mid new xs ys before.did later.did;
  places = acting.within_append first.limits.places xs ys before.places (rw before.left at later.places);
  most = rw (acting.joins_append xs ys) (acting.allows_twice first.limits.clients (joins xs) (joins ys) before.most (rw before.left at later.most));
  left = rw (acting.joins_append xs ys, ← acting.limits_twice first.limits (joins xs) (joins ys)) (rw before.left at later.left);
  carries = sockets.carries_then xs ys first second third before.carries later.carries;
}

-- and then nothing
pub led_on : (acts : List Act) (first second third : Server) (old new : Hall) → Led acts first second old new → third.limits ≡ second.limits
    → Carries [] second third → Led acts first third old new
led_on acts first second third old new it limits still =
    let left = limits ∙ it.left in
    let carries = sockets.carries_on acts first second third it.carries still in assumption

-- nobody comes
led_stepped : (moved : Type 0) (old new : Server) (old_hall new_hall : Hall) (it : Stepped connections moved old new old_hall new_hall)
    → new.limits ≡ old.limits → Led it.acts old new old_hall new_hall
led_stepped moved old new old_hall new_hall it limits = record {
  did = it.did;
  places = acting.nobody_within old.limits.places it.acts it.nobody;
  most = subst (Allows old.limits.clients) (sym it.nobody) (acting.allows_none old.limits.clients);
  left = limits ∙ sym (acting.limits_same old.limits) ∙ ap (limits_behind old.limits) (sym it.nobody);
  carries = it.carries;
}

-- one comes
led_came : (old new : Server) (old_hall new_hall : Hall) (one : Came old.limits new.limits old_hall new_hall) → Carries (Joins one.c ∷ []) old new
    → Led (Joins one.c ∷ []) old new old_hall new_hall
led_came old new old_hall new_hall one carries = record {
  did = one.did;
  places = both_true one.place refl;
  most = one.more;
  left = one.left;
  carries = carries;
}

-- or not
led_nobody : ActsInARow → (old new : Server) (old_hall new_hall : Hall) → new.limits ≡ old.limits → new_hall ≡ old_hall → Carries [] old new
    → Led [] old new old_hall new_hall
led_nobody row old new old_hall new_hall limits same still =
    rw same (led_on [] old old new old_hall old_hall (led_nowhere row old old_hall) limits still)

-- ---- a round

-- one who waited came, or nobody
abbrev CameOrNot : Bool → Server → Server → Hall → Hall → Type 0
CameOrNot came old new old_hall new_hall =
    (came ≡ true → (one : Came old.limits new.limits old_hall new_hall) × Carries (Joins one.c ∷ []) old new)
    × (came ≡ false → (new.limits ≡ old.limits) × (new_hall ≡ old_hall) × Carries [] old new)

listened : (came : Bool) (old mid new : Server) (old_hall mid_hall : Hall) → CameOrNot came old mid old_hall mid_hall
    → (came ≡ false → NoMore mid mid_hall) → new.is_asked ≡ mid.is_asked → new.limits ≡ mid.limits → new.is_refused ≡ mid.is_refused → Listened old new old_hall
listened true old mid new old_hall mid_hall came no_more asked limits refused = inl (mid_hall, rw limits (came.0 refl).0)
listened false old mid new old_hall mid_hall came no_more asked limits refused =
    inr (resting.no_more_on mid new old_hall asked limits refused (rw (came.1 refl).1 at (no_more refl)))

by_who_came : ActsInARow → (came moved : Bool) (old mid new : Server) (old_hall mid_hall new_hall : Hall) → CameOrNot came old mid old_hall mid_hall
    → (steps : Stepped connections (moved ≡ true) mid new mid_hall new_hall) → Led steps.acts mid new mid_hall new_hall → (acts : List Act)
    × Led acts old new old_hall new_hall × TakeTurns connections acts new.peers new_hall × ((came || moved) ≡ true → acts ≢ [])
by_who_came row true moved old mid new old_hall mid_hall new_hall came steps later =
    let it = came.0 refl in (
      Joins it.0.c ∷ steps.acts,
      led_then row (Joins it.0.c ∷ []) steps.acts old mid new old_hall mid_hall new_hall (led_came old mid old_hall mid_hall it.0 it.1) later,
      turns_behind connections it.0.c steps.acts new.peers new_hall steps.turns,
      λ moves e. cc,
    )
by_who_came row false moved old mid new old_hall mid_hall new_hall came steps later =
    let none = came.1 refl in
    let first = led_nobody row old mid old_hall mid_hall none.0 none.1 none.2 in
    (steps.acts, led_then row [] steps.acts old mid new old_hall mid_hall new_hall first later, steps.turns, steps.some)

-- and then the others took their steps
pub rounded : ActsInARow → (came moved : Bool) (old mid new : Server) (old_hall mid_hall new_hall : Hall)
    → (came ≡ true → (one : Came old.limits mid.limits old_hall mid_hall) × Carries (Joins one.c ∷ []) old mid)
    → (came ≡ false → (mid.limits ≡ old.limits) × (mid_hall ≡ old_hall) × Carries [] old mid)
    → (came ≡ false → NoMore mid mid_hall) → Looked old mid old_hall → ((c : ℕ) → client_at old_hall c ≢ None → client_at mid_hall c ≡ client_at old_hall c)
    → mid ≡ record old { peers = mid.peers; is_asked = mid.is_asked; is_refused = mid.is_refused; limits = mid.limits; alone_since = mid.alone_since }
    → Stepped connections (moved ≡ true) mid new mid_hall new_hall → HadCauses new mid_hall new_hall
    → new ≡ record mid { peers = new.peers; is_unkept = new.is_unkept; left = new.left }
    → (acts : List Act) × Round acts old new old_hall new_hall × ((came || moved) ≡ true → acts ≢ [])
rounded row came moved old mid new old_hall mid_hall new_hall one nobody no_more looked stay first steps causes kept =
    let limits : new.limits ≡ mid.limits = ap (λ (s : Server). s.limits) kept in
    let refused : new.is_refused ≡ mid.is_refused = ap (λ (s : Server). s.is_refused) kept in
    let asked : new.is_asked ≡ mid.is_asked = ap (λ (s : Server). s.is_asked) kept in
    let later = led_stepped (moved ≡ true) mid new mid_hall new_hall steps limits in
    let all = by_who_came row came moved old mid new old_hall mid_hall new_hall (one, nobody) steps later in (
      all.0,
      record {
        led = all.1;
        turns = all.2;
        looked = resting.looked_on old mid new old_hall asked refused looked;
        listened = listened came old mid new old_hall mid_hall (one, nobody) no_more asked limits refused;
        causes = λ c was gone. causes c (λ none. was (sym (stay c was) ∙ none)) gone;
        polls = ap (λ (s : Server). waits_of s.polls) kept ∙ ap (λ (s : Server). waits_of s.polls) first;
        spin = ap (λ (s : Server). s.spin) kept ∙ ap (λ (s : Server). s.spin) first;
      },
      all.3,
    )

-- a look at the clock is no part of it
round_on : (acts : List Act) (old behind mid : Server) (old_hall new_hall : Hall) (x : Option Instant) → mid ≡ record behind { alone_since = x }
    → Round acts old behind old_hall new_hall → Round acts old mid old_hall new_hall
round_on acts old behind mid old_hall new_hall x kept it =
    let looked : Server = record behind { alone_since = x } in
    let led = led_on acts old behind looked old_hall new_hall it.led refl (sockets.carries_none behind looked refl refl) in rw kept assumption

-- It ends only where all rest, so that nobody came behind the look by which it ends.
pub looked_before : (busy : Bool) (old behind new : Server) → (busy ≡ true → ⊥) → (busy ≡ false → behind.alone_since ≡ old.alone_since)
    → new.limits ≡ behind.limits → (behind.limits.clients ≡ Some 0) ⊎ IsSome behind.alone_since ⊎ (behind.limits.idle ≡ Some 0) → (new.limits.clients ≡ Some 0)
    ⊎ IsSome old.alone_since ⊎ (new.limits.idle ≡ Some 0)
looked_before true old behind new never since limits why = absurd (never refl)
looked_before false old behind new never since limits why = rw (limits, ← since refl) why

-- an error of another answer is the same error
pub no_poll : (A B : Type 0) (fault : ServingFault) (x : Result A ServingFault) (y : Result B ServingFault) → x ≡ Err fault → y ≡ Err fault
    → x ≢ Err Poll → y ≢ Err Poll
no_poll A B fault x y is same other e = other (is ∙ ap Err (let both : Err fault ≡ Err Poll = sym same ∙ e in cc))

-- ---- a turn of the loop

at_once : (most : Option Duration) → WaitsFor 0 (Wait most) → nanos most ≡ Some 0
at_once (Some time) h = ap Some h
at_once None h = absurd h

not_at_once : (most : Option Duration) → WaitsSome (Wait most) → nanos most ≢ Some 0
not_at_once (Some time) h e = let zero : as_nanos time ≡ 0 = cc in omega (arith, h, zero)
not_at_once None h e = cc

why_so : (busy : Bool) (most : Option Duration) (acts : List Act) (behind mid : Server) (h : Hall) (x : Option Instant)
    → mid ≡ record behind { alone_since = x } → (busy ≡ true → acts ≢ []) → (busy ≡ false → AllRest behind h) → (busy ≡ true → WaitsFor 0 (Wait most))
    → (busy ≡ false → WaitsSome (Wait most)) → ((nanos most ≡ Some 0) × (acts ≢ [])) ⊎ ((nanos most ≢ Some 0) × AllRest mid h)
why_so true most acts behind mid h x kept acted rest awake asleep = inl (at_once most (awake refl), acted refl)
why_so false most acts behind mid h x kept acted rest awake asleep = let all = rest refl in inr (not_at_once most (asleep refl), rw kept assumption)

pub turned : (busy : Bool) (most : Option Duration) (acts : List Act) (old behind mid new : Server) (old_hall new_hall : Hall) (x : Option Instant)
    → mid ≡ record behind { alone_since = x } → Round acts old behind old_hall new_hall
    → (busy ≡ true → acts ≢ []) → (busy ≡ false → AllRest behind new_hall) → (busy ≡ true → WaitsFor 0 (Wait most))
    → (busy ≡ false → WaitsSome (Wait most)) → Waits (nanos most) mid new → Noted mid new → IsKept mid new → Turned (Ok true) acts old new old_hall new_hall
turned busy most acts old behind mid new old_hall new_hall x kept round acted rest awake asleep waits noted still =
    let before : Round acts old mid old_hall new_hall = round_on acts old behind mid old_hall new_hall x kept round in record {
      led = led_on acts old mid new old_hall new_hall before.led still.limits still.carries;
      turn = λ on. record {
        mid = mid;
        round = before;
        most = nanos most;
        why = why_so busy most acts behind mid new_hall x kept acted rest awake asleep;
        waits = waits;
        noted = noted;
        kept = still;
      };
      last = λ on. absurd (on refl);
    }

-- it ends behind a round and a look at the clock
pub turned_behind : (answer : Result Bool ServingFault) (acts : List Act) (old behind new : Server) (old_hall new_hall : Hall) (x : Option Instant)
    → answer ≢ Ok true → new ≡ record behind { alone_since = x } → Round acts old behind old_hall new_hall → Turned answer acts old new old_hall new_hall
turned_behind answer acts old behind new old_hall new_hall x other kept it =
    let round = round_on acts old behind new old_hall new_hall x kept it in
    record { led = round.led; turn = λ on. absurd (other on); last = λ on poll. round }

-- ---- the whole loop

-- turns, and what is behind them
pub ran : {A : Type 0} (answer : Result A ServingFault) → ActsInARow → (before : List (Server × Hall × List Act)) (behind : List Act)
    (old mid new : Server) (old_hall mid_hall new_hall : Hall) → Turns before old old_hall mid mid_hall
    → Led (acts_of before) old mid old_hall mid_hall → Led behind mid new mid_hall new_hall → (answer ≢ Err Poll → Round behind mid new mid_hall new_hall)
    → OnOk answer ((new.limits.clients ≡ Some 0) ⊎ IsSome mid.alone_since ⊎ (new.limits.idle ≡ Some 0))
    → (acts : List Act) × Ran answer acts old new old_hall new_hall
ran answer row before behind old mid new old_hall mid_hall new_hall turns first rest last why = (
  acts_of before ++ behind,
  record {
    led = led_then row (acts_of before) behind old mid new old_hall mid_hall new_hall first rest;
    before = before;
    mid = mid;
    mid_hall = mid_hall;
    turns = turns;
    behind = behind;
    all = refl;
    rest = rest;
    last = last;
    why = why;
  },
)

pub served : {A E : Type 0} (answer : Result A E) (acts : List Act) (old new : Server) (old_hall new_hall : Hall) → Led acts old new old_hall new_hall
    → Seated new.peers new_hall → OnOk answer (AreNone new.peers × Ends new.limits) → Serves old.limits answer old_hall new_hall
served (Ok x) acts old new old_hall new_hall led seated none = record {
  acts = acts;
  did = led.did;
  places = led.places;
  most = led.most;
  end = acting.ended old.limits new.limits (joins acts) new.peers new_hall led.most led.left seated none;
}
served (Err e) acts old new old_hall new_hall led seated none = record { acts = acts; did = led.did; places = led.places; most = led.most; end = tt }
