-- One act, as a call makes it.
use Rattle.std.proofs.{Common.lt-ltb, Common.set-set, Common.eq-eqb, Common.◌≢◌, Common.zero, Common.suc, lemmas.List.take-append-drop, lemmas.List.length-take}
use Rattle.std.{proofs.lemmas.List.set-get_or, specs.Prelude.Err, specs.Option.is_some, specs.Option.option_map}
use Rattle.devices.specs.declared.reading.TheConstants.{READ_BUFFER}
use Rattle.sessions.specs.{Advances.Advanced, Advances.HasInput, Advances.Moves, Advances.are_steps_of, Reaching.came, Reaching.went}
use Rattle.sessions.{specs.declared.sessions.Advance.Advance, specs.declared.sessions.Advance.TheVariants.Moved, proofs.Others.others_kept, proofs.Others.there}
use Rattle.sessions.proofs.Prelude.{◌≡◌, ℕ, ◌<◌, ◌≤◌, ◌==◌, true, false, List, [], ◌∷◌, ◌++◌, length, drop, take, Option, None, Some, slice_set, refl}
use Rattle.sessions.proofs.Prelude.{sym, ap, ◌∙◌, subst, inl, inr, arith, append-nil, get_or-set_other, get_or-set_same, eqb_tells, eqb-true, Traffic, Partial}
use Rattle.sessions.proofs.Prelude.{Received, Happening, Opening, Bringing, Closing, connections, at_number, unless_open, unless_closed, unless_bad_number}
use Rattle.sessions.proofs.Prelude.{gate_fault, Took, with_line, Numbered, or_empty, Client, Hall, client_at, fresh_client, Act, Joins, Sends, Asks, Gets}
use Rattle.sessions.proofs.Prelude.{Leaves, with_client, Acts, Did, Matches, Present, number_within, number_some}
use Rattle.connections.specs.Events.{TakeFaultIs}
use Rattle.connections.specs.declared.gateway.{GateFault.GateFault, TakeFault.TakeFault, TakeFault.TheVariants.Refused}

-- ---- the same numbers

same_unless : (x : Option Partial) (y : Option Client) → is_some x ≡ is_some y → (unless_open x ≡ unless_open y) × (unless_closed x ≡ unless_closed y)
same_unless None None e = (refl, refl)
same_unless (Some x) (Some y) e = (refl, refl)
same_unless None (Some y) e = cc
same_unless (Some x) None e = cc

pub same_fault : (t : Traffic) (cs : List (Option Client)) (e : Happening) → Matches t cs → gate_fault t.lines e ≡ gate_fault cs e
same_fault t cs (Opening c) m = ap (unless_bad_number c) (same_unless _ _ (m c)).1
same_fault t cs (Bringing c bytes) m = ap (unless_bad_number c) (same_unless _ _ (m c)).0
same_fault t cs (Closing c) m = ap (unless_bad_number c) (same_unless _ _ (m c)).0

open_some : (x : Option Client) → is_some x ≡ true → unless_open x ≡ None
open_some (Some x) h = refl
open_some None h = cc

map_some : {A B : Type 0} (f : A → B) (x : Option A) → is_some (option_map f x) ≡ is_some x
map_some f (Some x) = refl
map_some f None = refl

-- a client that is found at a number is there, and the number is one of those that there are
pub record IsFound (cs : List (Option Client)) (c : ℕ) : Type 0 where
  pub here : is_some (at_number cs c) ≡ true
  pub place : c < length cs
  pub small : c < connections

pub found : {A : Type 0} (f : A → Client) (x : Option A) (cs : List (Option Client)) (c : ℕ) → option_map f x ≡ at_number cs c
    → is_some x ≡ true → length cs ≡ connections → IsFound cs c
found f x cs c at some count =
    let here : is_some (at_number cs c) ≡ true = rw (← at) (map_some f x ∙ some) in
    let place = number_some cs c here in record { here = here; place = place; small = omega (arith, place, count) }

-- an event that nothing refuses isn't refused
pub not_refused : (A : Type 0) (f : TakeFault) (why : GateFault) (e : Happening) (fault : Option GateFault) → f ≡ Refused why
    → TakeFaultIs {A = A} (Err f) e fault → fault ≡ None → ⊥
not_refused A f why e fault is told none = let no = rw is at told in cc

-- a client that is there may bring and go
pub may_bring : (t : Traffic) (cs : List (Option Client)) (c : ℕ) (bytes : List ℕ) (client : Client) → Matches t cs → c < connections
    → at_number cs c ≡ Some client → gate_fault t.lines (Bringing c bytes) ≡ None
may_bring t cs c bytes client m small is = same_fault t cs (Bringing c bytes) m ∙ rw (lt-ltb c connections small, is) refl

pub may_close : (t : Traffic) (cs : List (Option Client)) (c : ℕ) → Matches t cs → c < connections → is_some (at_number cs c) ≡ true
    → gate_fault t.lines (Closing c) ≡ None
may_close t cs c m small here = same_fault t cs (Closing c) m ∙ rw (lt-ltb c connections small) (open_some (at_number cs c) here)

-- and where there is none, one may come
pub may_open : (t : Traffic) (cs : List (Option Client)) (c : ℕ) → Matches t cs → c < connections → at_number cs c ≡ None
    → gate_fault t.lines (Opening c) ≡ None
may_open t cs c m small is = same_fault t cs (Opening c) m ∙ rw (lt-ltb c connections small, is) refl

-- a line and a client are put at a number, or taken away there
pub matches_set : (t u : Traffic) (cs ds : List (Option Client)) (c : ℕ) (x : Option Partial) (y : Option Client) → Matches t cs
    → c < length t.lines → c < length cs → u.lines ≡ slice_set t.lines c x → ds ≡ slice_set cs c y → is_some x ≡ is_some y → Matches u ds
matches_set t u cs ds c x y m line place lines clients same = λ d. elim (eqb_tells d c) as (λ _. is_some (at_number u.lines d) ≡ is_some (at_number ds d)) [
  | inl here ↦ rw (lines, clients, here.1, get_or-set_same t.lines c x None line, get_or-set_same cs c y None place) same
  | inr other ↦ rw (lines, clients, get_or-set_other t.lines c d x None other.1, get_or-set_other cs c d y None other.1) (m d)
]

-- only a client is put, where one was
pub matches_put : (t : Traffic) (cs ds : List (Option Client)) (c : ℕ) (was : Client) (y : Client) → Matches t cs → c < length cs
    → at_number cs c ≡ Some was → ds ≡ slice_set cs c (Some y) → Matches t ds
matches_put t cs ds c was y m place is clients = λ d. elim (eqb_tells d c) as (λ _. is_some (at_number t.lines d) ≡ is_some (at_number ds d)) [
  | inl here ↦ rw (clients, here.1, get_or-set_same cs c (Some y) None place) (m c ∙ ap is_some is)
  | inr other ↦ rw (clients, get_or-set_other cs c d (Some y) None other.1) (m d)
]

-- ---- one act alone

pub did_one : (old new : Hall) (a : Act) (es : List Happening) (said : List Numbered) → Acts old a es said new → Did old (a ∷ []) new
did_one old new a es said h = (es, said, (new, es, [], said, [], h, (refl, refl, refl), sym (append-nil es), sym (append-nil said)))

pub did_none : (h : Hall) → Did h [] h
did_none h = ([], [], (refl, refl, refl))

-- ---- by call

client_is : (a : Client) (x y : List ℕ) → a.input ≡ x → a.unsent ≡ y → a ≡ record { input = x; unsent = y }
client_is a x y p q = λ i. record { input = p i; unsent = q i }

module _ {t u : Traffic} (cs : List (Option Client)) {ds : List (Option Client)} {c : ℕ} {session : Client} (after : Client) {taken : ℕ}
    {reply : Option (List ℕ)} (m : Matches t cs) (small : c < connections) (is : at_number cs c ≡ Some session)
    (took : Took t c session.input taken reply u) (put : ds ≡ slice_set (slice_set cs c None) c (Some after)) where
  pub asked : session.unsent ≡ [] → after.input ≡ drop taken session.input → after.unsent ≡ or_empty reply
      → Did (record { traffic = t; clients = cs }) (Asks c ∷ []) (record { traffic = u; clients = ds })
  asked settled input unsent = did_one _ _ (Asks c) _ _ (
    session.input,
    reply,
    refl,
    refl,
    record {
      taken = taken;
      is_open = may_bring t cs c session.input session m small is;
      was = is ∙ ap Some (client_is session session.input [] refl settled);
      took = took;
      is = put ∙ set-set cs c None (Some after) ∙ ap (λ a. slice_set cs c (Some a)) (client_is after _ _ input unsent);
    },
  )

  pub asked_match : Matches u ds
  asked_match =
      matches_set t u cs ds c (Some took.next) (Some after) m (number_within t.lines c took.begun took.was) (number_within cs c session is)
      took.lines (put ∙ set-set cs c None (Some after)) refl

module _ (t : Traffic) {u : Traffic} (cs : List (Option Client)) {ds : List (Option Client)} (c : ℕ) (m : Matches t cs) (small : c < connections)
    (line : c < length t.lines) (place : c < length cs) where
  pub joins : (session : Client) → at_number cs c ≡ None → u ≡ with_line t c (Some (Received [])) → ds ≡ slice_set cs c (Some session) → session ≡ fresh_client
      → Did (record { traffic = t; clients = cs }) (Joins c ∷ []) (record { traffic = u; clients = ds })
  joins session none opened put fresh = did_one _ _ (Joins c) _ _ (
    refl,
    refl,
    record {
      free = may_open t cs c m small none;
      vacant = none;
      is = λ i. record { traffic = opened i; clients = (put ∙ ap (λ a. slice_set cs c (Some a)) fresh) i };
    },
  )

  pub joins_match : (session : Client) → u ≡ with_line t c (Some (Received [])) → ds ≡ slice_set cs c (Some session) → Matches u ds
  joins_match session opened put = matches_set t u cs ds c (Some (Received [])) (Some session) m line place (ap (λ (x : Traffic). x.lines) opened) put refl

  pub leaves : is_some (at_number cs c) ≡ true → u ≡ with_line t c None → ds ≡ slice_set cs c None
      → Did (record { traffic = t; clients = cs }) (Leaves c ∷ []) (record { traffic = u; clients = ds })
  leaves here closed put = did_one _ _ (Leaves c) _ _ (
    refl,
    refl,
    record { is_open = may_close t cs c m small here; is = λ i. record { traffic = closed i; clients = put i } },
  )

  pub leaves_match : u ≡ with_line t c None → ds ≡ slice_set cs c None → Matches u ds
  leaves_match closed put = matches_set t u cs ds c None None m line place (ap (λ (x : Traffic). x.lines) closed) put refl

module _ (t : Traffic) (cs : List (Option Client)) {ds : List (Option Client)} (c : ℕ) {session : Client} (after : Client)
    (is : at_number cs c ≡ Some session) (put : ds ≡ slice_set (slice_set cs c None) c (Some after)) where
  pub put_match : Matches t cs → Matches t ds
  put_match m = matches_put t cs ds c session after m (number_within cs c session is) is (put ∙ set-set cs c None (Some after))

  with_after : (x : Client) → after ≡ x → record { traffic = t; clients = ds } ≡ with_client (record { traffic = t; clients = cs }) t c (Some x)
  with_after x same = λ i. record { traffic = t; clients = (put ∙ set-set cs c None (Some after) ∙ ap (λ a. slice_set cs c (Some a)) same) i }

  pub gets : (n : ℕ) → after.input ≡ session.input → after.unsent ≡ drop n session.unsent
      → Did (record { traffic = t; clients = cs }) (Gets c (take n session.unsent) ∷ []) (record { traffic = t; clients = ds })
  gets n input unsent = did_one _ _ (Gets c (take n session.unsent)) _ _ (
    refl,
    refl,
    record {
      input = session.input;
      rest = drop n session.unsent;
      was = is ∙ ap Some (client_is session session.input _ refl (sym (take-append-drop n session.unsent)));
      is = with_after _ (client_is after session.input _ input unsent);
    },
  )

  pub sends : (bytes : List ℕ) → length after.input ≤ READ_BUFFER → session ≡ fresh_client → after.input ≡ bytes → after.unsent ≡ session.unsent
      → Did (record { traffic = t; clients = cs }) (Sends c bytes ∷ []) (record { traffic = t; clients = ds })
  sends bytes few fresh input unsent = did_one _ _ (Sends c bytes) _ _ (
    refl,
    refl,
    record {
      few = subst (λ l. length l ≤ READ_BUFFER) input few;
      was = is ∙ ap Some fresh;
      is = with_after _ (client_is after bytes [] input (unsent ∙ ap (λ (x : Client). x.unsent) fresh));
    },
  )

-- ---- a client is taken out and put back

module _ {t u : Traffic} (cs : List (Option Client)) {ds : List (Option Client)} (c : ℕ) {session : Client} (same : u ≡ t) (is : Some session ≡ at_number cs c)
    (put : ds ≡ slice_set (slice_set cs c None) c (Some session)) where
  back : ds ≡ cs
  back = put ∙ set-set cs c None (Some session) ∙ ap (λ x. slice_set cs c x) is ∙ set-get_or cs c None

  pub put_back : ◌≡◌ {A = Hall} (record { traffic = u; clients = ds }) (record { traffic = t; clients = cs })
  put_back = λ i. record { traffic = same i; clients = back i }

  pub back_match : Matches t cs → Matches u ds
  back_match m = rw (same, back) m

-- ---- steps

module _ (answer : Advance) (c : ℕ) (old new : Hall) (received_old received_new sent_old sent_new : List ℕ) where
  advanced : (acts : List Act) → length acts ≤ 1 → are_steps_of c acts ≡ true → (answer ≡ Moved → Moves c old acts) → Did old acts new
      → received_new ≡ received_old ++ came c acts → sent_new ≡ sent_old ++ went c acts → Advanced answer c old new received_old received_new sent_old sent_new
  advanced acts one own moved did received sent = record {
    acts = acts;
    one = one;
    own = own;
    moved = moved;
    did = did;
    received = received;
    sent = sent;
    stays = there old new acts did.0 did.1 c own did.2;
    others = λ d ne. (others_kept old new acts did.0 did.1 c d ne own did.2).0;
    other_lines = λ d ne. (others_kept old new acts did.0 did.1 c d ne own did.2).1;
  }

  here : (c == c) ≡ true
  here = eq-eqb c c refl

  pub advance_asks : HasInput c old → Did old (Asks c ∷ []) new → received_new ≡ received_old → sent_new ≡ sent_old
      → Advanced answer c old new received_old received_new sent_old sent_new
  advance_asks some did received sent =
      advanced (Asks c ∷ []) (omega arith) (rw here) (λ _. inr (inl (refl, some))) did
      (rw (append-nil received_old) received) (rw (append-nil sent_old) sent)

  pub advance_none : (answer ≡ Moved → ⊥) → new ≡ old → received_new ≡ received_old ++ [] → sent_new ≡ sent_old ++ []
      → Advanced answer c old new received_old received_new sent_old sent_new
  advance_none still same received sent = advanced [] (omega arith) refl (λ m. absurd (still m)) (rw same (did_none old)) received sent

  pub advance_gets : (bytes : List ℕ) → (answer ≡ Moved → bytes ≢ []) → Did old (Gets c bytes ∷ []) new → received_new ≡ received_old
      → sent_new ≡ sent_old ++ bytes → Advanced answer c old new received_old received_new sent_old sent_new
  advance_gets bytes some did received sent =
      advanced (Gets c bytes ∷ []) (omega arith) (rw here) (λ m. inl (bytes, refl, some m)) did (rw (append-nil received_old) received)
      (rw (here, append-nil bytes) sent)

  pub advance_sends : (bytes : List ℕ) → (answer ≡ Moved → bytes ≢ []) → Did old (Sends c bytes ∷ []) new
      → received_new ≡ received_old ++ bytes → sent_new ≡ sent_old → Advanced answer c old new received_old received_new sent_old sent_new
  advance_sends bytes some did received sent =
      advanced (Sends c bytes ∷ []) (omega arith) (rw here) (λ m. inr (inr (bytes, refl, some m))) did (rw (here, append-nil bytes) received)
      (rw (append-nil sent_old) sent)

-- ---- what a call finds is what its caller promised

module _ {t : Traffic} {cs : List (Option Client)} {h : Hall} {c : ℕ} {client : Client} (view : record { traffic = t; clients = cs } ≡ h) where
  pub found_is : {session : Client} → at_number cs c ≡ Some session → Present h c client → session ≡ client
  found_is {session} is p = let at : at_number cs c ≡ client_at h c = ap (λ x. client_at x c) view in cc

  pub present : Some client ≡ at_number cs c → length cs ≡ connections → Present h c client
  present is count = record { small = omega (arith, number_within cs c client (sym is), count); is = rw (← view) (sym is) }

empty_of : (xs : List ℕ) → true ≡ (length xs == 0) → xs ≡ []
empty_of [] e = refl
empty_of (x ∷ xs) e = absurd (let h : length (x ∷ xs) ≡ 0 = eqb-true (length (x ∷ xs)) 0 (sym e) in omega arith)

pub settled : {h : Hall} {c : ℕ} (client : Client) (unsent : List ℕ) → Present h c client → unsent ≡ client.unsent → true ≡ (length unsent == 0)
    → Present h c (record { input = client.input; unsent = [] })
settled client unsent p same e = rw (client_is client client.input [] refl (sym same ∙ empty_of unsent e)) at p

pub some_of : (xs ys : List ℕ) → xs ≡ ys → false ≡ (length xs == 0) → ys ≡ [] → ⊥
some_of xs ys same f e = cc

pub take_some : (n : ℕ) (xs : List ℕ) → n ≢ 0 → xs ≢ [] → take n xs ≢ []
take_some zero xs some more e = some refl
take_some (suc n) [] some more e = more refl
take_some (suc n) (x ∷ xs) some more e = cc

-- the first n bytes of a buffer, at least one, are some
pub found_some : (n : ℕ) (xs : List ℕ) → 0 < n → n ≤ length xs → take n xs ≢ []
found_some n xs some within e = omega (arith, some, within, length-take n xs, ap length e)
