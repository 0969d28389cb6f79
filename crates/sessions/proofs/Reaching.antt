-- What happens to clients is events of the gateway, and replies reach their clients.
use Rattle.sessions.proofs.Prelude.{EventsGoOn, ◌≡◌, ℕ, ◌==◌, Bool, true, false, not, List, [], ◌∷◌, ◌++◌, Option, None, Some, if◌then◌else◌, slice_set}
use Rattle.std.proofs.lemmas.Bool.{and_parts}
use Rattle.sessions.proofs.Prelude.{refl, sym, ap, ◌∙◌, subst, append_assoc, append-nil, get_or-set_other, get_or-set_same, eqb-true, eqb-false, Traffic}
use Rattle.sessions.proofs.Prelude.{Happening, Opening, Bringing, Closing, gate_fault, Happens, Numbered, number_of, sent_to, OccurAll}
use Rattle.sessions.proofs.Prelude.{or_empty, own, RepliesInOrder, Client, Hall, client_at, Act, Joins, Sends, Asks, Gets, Leaves, Acts, ActAll, went_by, went}
use Rattle.sessions.proofs.Prelude.{stays_by, stays, joined, ActsAreEvents, SessionsInOrder, AnswersReach, ActsInARow, number_within}

-- ---- acts are events

one_event : (t u : Traffic) (e : Happening) (taken : ℕ) (reply : Option (List ℕ)) → gate_fault t.lines e ≡ None → Happens t e taken reply u
    → OccurAll t (e ∷ []) (sent_to (number_of e) reply) u
one_event t u e taken reply opens h =
    (u, sent_to (number_of e) reply, [], rw opens (taken, reply, h, refl), (refl, refl), sym (append-nil (sent_to (number_of e) reply)))

pub act_events : (old new : Hall) (a : Act) (es : List Happening) (said : List Numbered) → Acts old a es said new → OccurAll old.traffic es said new.traffic
act_events old new (Joins c) es said h =
    rw (h.0, h.1) (one_event old.traffic new.traffic (Opening c) 0 None h.2.free (refl, refl, ap (λ (x : Hall). x.traffic) h.2.is))
act_events old new (Sends c bytes) es said h = rw (h.0, h.1) (refl, ap (λ (x : Hall). x.traffic) h.2.is)
act_events old new (Asks c) es said h = rw (h.2, h.3) (one_event old.traffic new.traffic (Bringing c h.0) h.4.taken h.1 h.4.is_open h.4.took)
act_events old new (Gets c bytes) es said h = rw (h.0, h.1) (refl, ap (λ (x : Hall). x.traffic) h.2.is)
act_events old new (Leaves c) es said h =
    rw (h.0, h.1) (one_event old.traffic new.traffic (Closing c) 0 None h.2.is_open (refl, refl, ap (λ (x : Hall). x.traffic) h.2.is))

pub acts_are_events : EventsGoOn → ActsAreEvents
acts_are_events law old new [] es replies h = rw (h.0, h.1) (refl, ap (λ (x : Hall). x.traffic) h.2)
acts_are_events law old new (a ∷ acts) es replies h =
    rw (h.7, h.8) (law.occur-append old.traffic h.0.traffic new.traffic h.1 h.2 h.3 h.4 (act_events old h.0 a h.1 h.3 h.5)
    (acts_are_events law h.0 new acts h.2 h.4 h.6))

pub sessions_in_order : EventsGoOn → RepliesInOrder → SessionsInOrder
sessions_in_order law order old new w acts es replies s h =
    order old.traffic new.traffic w es replies s (acts_are_events law old new acts es replies h)

-- ---- one client

-- an act leaves client c there, with these of its bytes gone and these of its replies come
pub record Moves (mid : Hall) (c : ℕ) (gone : List ℕ) (said : List Numbered) (before : Client) : Type 0 where
  pub after : Client
  pub is : client_at mid c ≡ Some after
  pub went : gone ++ after.unsent ≡ before.unsent ++ joined (own c said)

-- what is put at d is beside c
pub still : (old mid : Hall) (c d : ℕ) (x : Option Client) (before : Client) → (d == c) ≡ false → mid.clients ≡ slice_set old.clients d x
    → client_at old c ≡ Some before → client_at mid c ≡ Some before
still old mid c d x before other put was =
    rw (put, get_or-set_other old.clients d c x None (λ s. eqb-false d c other (sym s))) was

pub placed : (old mid : Hall) (c d : ℕ) (x before : Client) → (d == c) ≡ true → mid.clients ≡ slice_set old.clients d (Some x)
    → client_at old c ≡ Some before → client_at mid c ≡ Some x
placed old mid c d x before same put was =
    rw (put, eqb-true d c same) (get_or-set_same old.clients c (Some x) None (number_within old.clients c before was))

beside : (old mid : Hall) (c d : ℕ) (x : Option Client) (before : Client) (gone : List ℕ) (said : List Numbered) → (d == c) ≡ false
    → mid.clients ≡ slice_set old.clients d x → client_at old c ≡ Some before → gone ≡ [] → own c said ≡ [] → Moves mid c gone said before
beside old mid c d x before gone said other put was none quiet = record {
  after = before;
  is = still old mid c d x before other put was;
  went = rw (none, quiet) (sym (append-nil before.unsent));
}

pub same_client : (h : Hall) (c d : ℕ) (a b : Client) → (d == c) ≡ true → client_at h d ≡ Some a → client_at h c ≡ Some b → a ≡ b
same_client h c d a b same p q = let is : d ≡ c = eqb-true d c same in cc

own_sent : (c d : ℕ) (reply : Option (List ℕ)) → (d == c) ≡ true → joined (own c (sent_to d reply)) ≡ or_empty reply
own_sent c d None same = refl
own_sent c d (Some text) same = rw same (append-nil text)

none_sent : (c d : ℕ) (reply : Option (List ℕ)) → (d == c) ≡ false → own c (sent_to d reply) ≡ []
none_sent c d None other = refl
none_sent c d (Some text) other = rw other refl

module _ (old mid : Hall) (c : ℕ) (before : Client) (was : client_at old c ≡ Some before) where
  sends : (d : ℕ) (bytes : List ℕ) (es : List Happening) (said : List Numbered) (b : Bool) → (d == c) ≡ b
      → Acts old (Sends d bytes) es said mid → Moves mid c [] said before
  sends d bytes es said true same h =
      let prior = same_client old c d _ before same h.2.was was in record {
        after = record { input = bytes; unsent = [] };
        is = placed old mid c d _ before same (ap (λ (x : Hall). x.clients) h.2.is) was;
        went = rw (h.1, ← prior) refl;
      }
  sends d bytes es said false other h = beside old mid c d _ before [] said other (ap (λ (x : Hall). x.clients) h.2.is) was refl (rw h.1 refl)

  asks : (d : ℕ) (es : List Happening) (said : List Numbered) (b : Bool) → (d == c) ≡ b → Acts old (Asks d) es said mid → Moves mid c [] said before
  asks d es said true same h =
      let prior = same_client old c d _ before same h.4.was was in record {
        after = record { input = _; unsent = or_empty h.1 };
        is = placed old mid c d _ before same h.4.is was;
        went = rw (h.3, ← prior) (sym (own_sent c d h.1 same));
      }
  asks d es said false other h = beside old mid c d _ before [] said other h.4.is was refl (rw h.3 (none_sent c d h.1 other))

  gets : (d : ℕ) (bytes : List ℕ) (es : List Happening) (said : List Numbered) (b : Bool) → (d == c) ≡ b
      → Acts old (Gets d bytes) es said mid → Moves mid c (if b then bytes else []) said before
  gets d bytes es said true same h =
      let prior = same_client old c d _ before same h.2.was was in record {
        after = record { input = h.2.input; unsent = h.2.rest };
        is = placed old mid c d _ before same (ap (λ (x : Hall). x.clients) h.2.is) was;
        went = rw (h.1, ← prior) (sym (append-nil (bytes ++ h.2.rest)));
      }
  gets d bytes es said false other h = beside old mid c d _ before [] said other (ap (λ (x : Hall). x.clients) h.2.is) was refl (rw h.1 refl)

pub not_same : (d c : ℕ) → not (d == c) ≡ true → (d == c) ≡ false
not_same d c h = elim (d == c) as (λ b. not b ≡ true → b ≡ false) [ true ↦ λ no. cc | false ↦ λ _. refl ] h

pub moves_one : (old mid : Hall) (a : Act) (es : List Happening) (said : List Numbered) (c : ℕ) (before : Client) → Acts old a es said mid
    → stays_by c a ≡ true → client_at old c ≡ Some before → Moves mid c (went_by c a) said before
moves_one old mid (Joins d) es said c before h stay was =
    beside old mid c d _ before [] said (not_same d c stay) (ap (λ (x : Hall). x.clients) h.2.is) was refl (rw h.1 refl)
moves_one old mid (Sends d bytes) es said c before h stay was = sends old mid c before was d bytes es said (d == c) refl h
moves_one old mid (Asks d) es said c before h stay was = asks old mid c before was d es said (d == c) refl h
moves_one old mid (Gets d bytes) es said c before h stay was = gets old mid c before was d bytes es said (d == c) refl h
moves_one old mid (Leaves d) es said c before h stay was =
    beside old mid c d _ before [] said (not_same d c stay) (ap (λ (x : Hall). x.clients) h.2.is) was refl (rw h.1 refl)

-- ---- many acts

joined-append : (xs ys : List (List ℕ)) → joined (xs ++ ys) ≡ joined xs ++ joined ys
joined-append [] ys = refl
joined-append (x ∷ xs) ys = simp (joined-append xs ys, append_assoc)

pub answers_reach : EventsGoOn → AnswersReach
answers_reach law old new [] es replies c before after h stay was is =
    let same : before ≡ after = (let still = ap (λ (x : Hall). client_at x c) h.2 in cc) in
    rw (h.1, same) (sym (append-nil after.unsent))
answers_reach law old new (a ∷ acts) es replies c before after h stay was is =
    let stays_on = and_parts (stays_by c a) (stays c acts) stay in
    let one = moves_one old h.0 a h.1 h.3 c before h.5 stays_on.0 was in
    let rest = answers_reach law h.0 new acts h.2 h.4 c one.after after h.6 stays_on.1 one.is is in
    rw (h.8, law.own-append c h.3 h.4, joined-append (own c h.3) (own c h.4), ← append_assoc before.unsent (joined (own c h.3)) (joined (own c h.4)))
    (rw (append_assoc (went_by c a) (went c acts) after.unsent, rest, ← one.went) (sym (append_assoc (went_by c a) one.after.unsent (joined (own c h.4)))))

-- ---- acts in a row

act-append : (old mid new : Hall) (before later : List Act) (es fs : List Happening) (said more : List Numbered)
    → ActAll old before es said mid → ActAll mid later fs more new → ActAll old (before ++ later) (es ++ fs) (said ++ more) new
act-append old mid new [] later es fs said more p q = rw (p.0, p.1) (subst (λ h. ActAll h later fs more new) p.2 q)
act-append old mid new (a ∷ acts) later es fs said more p q = (
  p.0,
  p.1,
  p.2 ++ fs,
  p.3,
  p.4 ++ more,
  p.5,
  act-append p.0 mid new acts later p.2 fs p.4 more p.6 q,
  ap (λ l. l ++ fs) p.7 ∙ append_assoc p.1 p.2 fs,
  ap (λ l. l ++ more) p.8 ∙ append_assoc p.3 p.4 more,
)

pub acts_in_a_row : ActsInARow
acts_in_a_row = record {
  none = λ h. ([], [], (refl, refl, refl));
  more = λ old mid new before later p q. (p.0 ++ q.0, p.1 ++ q.1, act-append old mid new before later p.0 q.0 p.1 q.1 p.2 q.2);
}
