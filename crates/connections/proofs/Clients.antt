-- The replies of many connections are those of one desk.
use Rattle.std.proofs.Common.{◌≡◌, ℕ, ◌<◌, ◌==◌, Bool, true, false, List, [], ◌∷◌, ◌++◌, length, Option, None, Some, if◌then◌else◌, slice_set, replicate, zero}
use Rattle.std.proofs.Common.{suc, inl, inr, refl, sym, ap, ◌∙◌, subst, arith, append_assoc}
use Rattle.std.proofs.lemmas.Bool.Decides.{eqb_tells}
use Rattle.connections.proofs.Prelude.{length-set, get_or-set_other, get_or-set_same, eqb-true, eqb-false, Office, Happening, Opening, Bringing, Closing}
use Rattle.connections.proofs.Prelude.{connections, at_number, unless_open, unless_closed, unless_bad_number, line_at, gate_fault, Took, Happens, has_end}
use Rattle.connections.proofs.{Prelude.before_end, Prelude.Traffic, Prelude.Partial, Prelude.Received, Prelude.Stands, Prelude.GateFault, Took.good_number}
use Rattle.connections.specs.Clients.{Numbered, number_of, sent_to, OccursBy, Occurs, OccurAll, BegunLines, or_empty, begun_on, accepted, completed}
use Rattle.connections.specs.Clients.{unless_refused, begun_after, lines_in, lines_of, ServesAll, StandsAt, StandFor, NoneIsBegun, RepliesInOrder, own}
use Rattle.connections.specs.Clients.{events_of, LinesAreOwn, AnswerEach, RepliesAreOwn}

-- ---- what is known, and what is begun

same_unless : (x : Option Partial) (y : Option (List ℕ)) → StandsAt x y → (unless_open x ≡ unless_open y) × (unless_closed x ≡ unless_closed y)
same_unless None None s = (refl, refl)
same_unless (Some known) (Some line) s = (refl, refl)
same_unless x y s = absurd s

pub same_fault : (t : Traffic) (w : BegunLines) (e : Happening) → StandFor t w → gate_fault t.lines e ≡ gate_fault w e
same_fault t w (Opening c) s = ap (unless_bad_number c) (same_unless _ _ (s.at c)).1
same_fault t w e s = ap (unless_bad_number (number_of e)) (same_unless _ _ (s.at (number_of e))).0

pub number_fits : {A : Type 0} (ls : List (Option A)) (e : Happening) → gate_fault ls e ≡ None → number_of e < connections
number_fits ls (Opening c) h = good_number c _ h
number_fits ls e h = good_number (number_of e) _ h

-- a line is put at a number on both sides
put_at : (t u : Traffic) (w : BegunLines) (c : ℕ) (x : Option Partial) (y : Option (List ℕ)) → StandFor t w → c < connections
    → u.lines ≡ slice_set t.lines c x → StandsAt x y → StandFor u (slice_set w c y)
put_at t u w c x y s small lines here = record {
  count = length-set w c y ∙ s.count;
  counted = ap length lines ∙ length-set t.lines c x ∙ s.counted;
  at = λ d. elim (eqb_tells d c) as (λ _. StandsAt (line_at u d) (at_number (slice_set w c y) d)) [
    | inl same ↦ rw (lines, same.1, get_or-set_same t.lines c x None (omega (arith, s.counted, small)))
        (rw (get_or-set_same w c y None (omega (arith, s.count, small))) here)
    | inr other ↦ rw (lines, get_or-set_other t.lines c d x None other.1, get_or-set_other w c d y None other.1) (s.at d)
  ];
}

-- ---- no connection is open

none_stands : (n c : ℕ) → StandsAt (at_number (replicate n None) c) (at_number (replicate n None) c)
none_stands zero c = tt
none_stands (suc n) zero = tt
none_stands (suc n) (suc c) = none_stands n c

pub none_is_begun : NoneIsBegun
none_is_begun t e = record {
  count = refl;
  counted = ap length e;
  at = λ c. subst (λ l. StandsAt (at_number l c) (at_number (replicate connections None) c)) (sym e) (none_stands connections c);
}

-- ---- one event

-- what one event does to the desk
abbrev One : Traffic → Traffic → BegunLines → Happening → List Numbered → Type 0
One t u w e replies = ServesAll t.office (completed w e) replies u.office × StandFor u (accepted w e)

pub known_line : (y : Option (List ℕ)) (known : Partial) → StandsAt (Some known) y → Stands known (or_empty y)
known_line (Some line) known s = s
known_line None known s = absurd s

module _ (t u : Traffic) (w : BegunLines) (c : ℕ) (bytes : List ℕ) (s : StandFor t w) (small : c < connections) (taken : ℕ)
    (reply : Option (List ℕ)) (took : Took t c bytes taken reply u) where
  stood : Stands took.begun (begun_on w c)
  stood = known_line (at_number w c) took.begun (rw took.was at (s.at c))

  bring : (b : Bool) → has_end bytes ≡ b → One t u w (Bringing c bytes) (sent_to c reply)
  bring true e =
      let done = rw e at took.takes.step in
      rw (e, done.is) (
        (u.office, done.text, [], done.answers (begun_on w c) stood, refl, (refl, refl)),
        put_at t u w c (Some took.next) (Some []) s small took.lines (rw done.fresh refl),
      )
  bring false e =
      let more = rw e at took.takes.step in
      rw (e, more.silent) (
        (refl, more.same),
        put_at t u w c (Some took.next) (Some (begun_on w c ++ bytes)) s small took.lines
            (more.goes_on (begun_on w c) stood),
      )

one_accepted : (t u : Traffic) (w : BegunLines) (e : Happening) (taken : ℕ) (reply : Option (List ℕ)) → StandFor t w
    → number_of e < connections → Happens t e taken reply u → One t u w e (sent_to (number_of e) reply)
one_accepted t u w (Opening c) taken reply s small h =
    rw h.1 ((refl, ap (λ (x : Traffic). x.office) h.2), put_at t u w c (Some (Received [])) (Some []) s small (ap (λ (x : Traffic). x.lines) h.2) refl)
one_accepted t u w (Bringing c bytes) taken reply s small h = bring t u w c bytes s small taken reply h (has_end bytes) refl
one_accepted t u w (Closing c) taken reply s small h =
    rw h.1 ((refl, ap (λ (x : Traffic). x.office) h.2), put_at t u w c None None s small (ap (λ (x : Traffic). x.lines) h.2) tt)

one_by : (t u : Traffic) (w : BegunLines) (e : Happening) (here : List Numbered) (f : Option GateFault) → gate_fault w e ≡ f → StandFor t w
    → OccursBy f t e here u → ServesAll t.office (unless_refused f (completed w e) []) here u.office × StandFor u (unless_refused f (accepted w e) w)
one_by t u w e here (Some fault) is s o = ((o.0, ap (λ (x : Traffic). x.office) o.1), subst (λ x. StandFor x w) (sym o.1) s)
one_by t u w e here None is s o = rw o.3 (one_accepted t u w e o.0 o.1 s (number_fits w e is) o.2)

one_event : (t u : Traffic) (w : BegunLines) (e : Happening) (here : List Numbered) → StandFor t w → Occurs t e here u
    → ServesAll t.office (lines_in w e) here u.office × StandFor u (begun_after w e)
one_event t u w e here s o = one_by t u w e here (gate_fault w e) refl s (subst (λ f. OccursBy f t e here u) (same_fault t w e s) o)

-- ---- all events

pub occur-append : (t u v : Traffic) (xs ys : List Happening) (a b : List Numbered) → OccurAll t xs a u → OccurAll u ys b v → OccurAll t (xs ++ ys) (a ++ b) v
occur-append t u v [] ys a b p q = rw p.0 (subst (λ x. OccurAll x ys b v) p.1 q)
occur-append t u v (x ∷ xs) ys a b p q = (p.0, p.1, p.2 ++ b, p.3, occur-append p.0 u v xs ys p.2 b p.4 q, ap (λ l. l ++ b) p.5 ∙ append_assoc p.1 p.2 b)

serves-append : (o m n : Office) (xs ys a b : List Numbered) → ServesAll o xs a m → ServesAll m ys b n → ServesAll o (xs ++ ys) (a ++ b) n
serves-append o m n [] ys a b p q = rw p.0 (subst (λ x. ServesAll x ys b n) p.1 q)
serves-append o m n (x ∷ xs) ys a b p q = (p.0, p.1, p.2 ++ b, p.3, ap (λ l. l ++ b) p.4, serves-append p.0 m n xs ys p.2 b p.5 q)

pub law_replies_in_order : RepliesInOrder
law_replies_in_order t u w [] replies s o = ((o.0, ap (λ (x : Traffic). x.office) o.1), subst (λ x. StandFor x w) (sym o.1) s)
law_replies_in_order t u w (e ∷ es) replies s o =
    let one = one_event t o.0 w e o.1 s o.3 in
    let rest = law_replies_in_order o.0 u (begun_after w e) es o.2 one.1 o.4 in
    (rw o.5 (serves-append t.office o.0.office u.office (lines_in w e) (lines_of (begun_after w e) es) o.1 o.2 one.0 rest.0), rest.1)

-- ---- replies of one connection

pub replies_are_own : RepliesAreOwn
replies_are_own c old new [] replies s = rw s.0 tt
replies_are_own c old new (l ∷ ls) replies s =
    let later = replies_are_own c s.0 new ls s.2 s.5 in
    rw s.4 (elim (l.0 == c) as (λ b. AnswerEach ((if b then l.1 ∷ [] else []) ++ own c ls) ((if b then s.1 ∷ [] else []) ++ own c s.2))
    [ true ↦ ((old, s.0, s.3), later) | false ↦ later ])

-- ---- lines of one connection

-- what is begun on c, and that there are as many connections, is the same
record Alike (c : ℕ) (w v : BegunLines) : Type 0 where
  here : at_number w c ≡ at_number v c
  count : length w ≡ length v

same_number : (e : Happening) (w v : BegunLines) → Alike (number_of e) w v → gate_fault w e ≡ gate_fault v e
same_number (Opening n) w v a = ap (λ x. unless_bad_number n (unless_closed x)) a.here
same_number e w v a = ap (λ x. unless_bad_number (number_of e) (unless_open x)) a.here

same_completed : (e : Happening) (w v : BegunLines) → Alike (number_of e) w v → completed w e ≡ completed v e
same_completed (Bringing n bytes) w v a = ap (λ x. if has_end bytes then (n, or_empty x ++ before_end bytes) ∷ [] else []) a.here
same_completed e w v a = refl

-- one line is put at n on both sides
alike_set : (n : ℕ) (w v : BegunLines) (x y : Option (List ℕ)) → x ≡ y → n < length w → Alike n w v → Alike n (slice_set w n x) (slice_set v n y)
alike_set n w v x y same small a = record {
  here = get_or-set_same w n x None small ∙ same ∙ sym (get_or-set_same v n y None (omega (arith, small, a.count)));
  count = length-set w n x ∙ a.count ∙ sym (length-set v n y);
}

beside_set : (n c : ℕ) (w v : BegunLines) (x : Option (List ℕ)) → (c ≡ n → ⊥) → Alike c w v → Alike c (slice_set w n x) v
beside_set n c w v x other a = record {
  here = get_or-set_other w n c x None other ∙ a.here;
  count = length-set w n x ∙ a.count;
}

alike_accepted : (e : Happening) (w v : BegunLines) → number_of e < length w → Alike (number_of e) w v → Alike (number_of e) (accepted w e) (accepted v e)
alike_accepted (Bringing n bytes) w v small a = alike_set n w v _ _ (ap (λ x. Some (if has_end bytes then [] else or_empty x ++ bytes)) a.here) small a
alike_accepted e w v small a = alike_set (number_of e) w v _ _ refl small a

beside_accepted : (e : Happening) (c : ℕ) (w v : BegunLines) → (c ≡ number_of e → ⊥) → Alike c w v → Alike c (accepted w e) v
beside_accepted (Opening n) c w v other a = beside_set n c w v _ other a
beside_accepted e c w v other a = beside_set (number_of e) c w v _ other a

pub own-append : (c : ℕ) (xs ys : List Numbered) → own c (xs ++ ys) ≡ own c xs ++ own c ys
own-append c [] ys = refl
own-append c (x ∷ xs) ys = grind (arith, own-append c xs ys)

unless_by : {A : Type 0} (P : A → Type 0) (f : Option GateFault) (x y : A) → P x → P y → P (unless_refused f x y)
unless_by P None x y p q = p
unless_by P (Some fault) x y p q = q

-- an event of another connection completes no line of this one
none_completed : (e : Happening) (c : ℕ) (w : BegunLines) → (number_of e == c) ≡ false → own c (completed w e) ≡ []
none_completed (Bringing n bytes) c w other = grind arith
none_completed e c w other = refl

pub none_own : (e : Happening) (c : ℕ) (w : BegunLines) → (number_of e == c) ≡ false → own c (lines_in w e) ≡ []
none_own e c w other = unless_by (λ l. own c l ≡ []) (gate_fault w e) _ _ (none_completed e c w other) refl

-- and begins none of it
beside_after : (e : Happening) (c : ℕ) (w v : BegunLines) → (number_of e == c) ≡ false → Alike c w v → Alike c (begun_after w e) v
beside_after e c w v is a =
    unless_by (λ x. Alike c x v) (gate_fault w e) _ _ (beside_accepted e c w v (λ s. eqb-false (number_of e) c is (sym s)) a) a

pub kept : (e : Happening) (c : ℕ) (w : BegunLines) → (number_of e == c) ≡ false → at_number (begun_after w e) c ≡ at_number w c
kept e c w other = (beside_after e c w w other (record { here = refl; count = refl })).here

alike_after : (f : Option GateFault) (e : Happening) (w v : BegunLines) → gate_fault w e ≡ f → length w ≡ connections → Alike (number_of e) w v
    → Alike (number_of e) (unless_refused f (accepted w e) w) (unless_refused f (accepted v e) v)
alike_after None e w v is count a = let small = number_fits w e is in alike_accepted e w v (omega (arith, small, count)) a
alike_after (Some fault) e w v is count a = a

length_accepted : (e : Happening) (w : BegunLines) → length (accepted w e) ≡ length w
length_accepted (Opening n) w = length-set w n _
length_accepted e w = length-set w (number_of e) _

own_event : (c : ℕ) (w v : BegunLines) (e : Happening) (es : List Happening) → length w ≡ connections → Alike c w v → (b : Bool) → (number_of e == c) ≡ b
    → ((x : BegunLines) → Alike c (begun_after w e) x → own c (lines_of (begun_after w e) es) ≡ own c (lines_of x (events_of c es)))
    → own c (lines_in w e) ++ own c (lines_of (begun_after w e) es) ≡ own c (lines_of v ((if b then e ∷ [] else []) ++ events_of c es))
own_event c w v e es count a true is later =
    let same = eqb-true (number_of e) c is in
    let here : Alike (number_of e) w v = rw same a in
    let fault = same_number e w v here in
    let after : Alike (number_of e) (begun_after w e) (begun_after v e) = rw (← fault) (alike_after (gate_fault w e) e w v refl count here) in
    let lines : lines_in w e ≡ lines_in v e = cc (fault, same_completed e w v here) in
    rw (lines, later (begun_after v e) (subst (λ n. Alike n (begun_after w e) (begun_after v e)) same after))
    (sym (own-append c (lines_in v e) (lines_of (begun_after v e) (events_of c es))))
own_event c w v e es count a false is later =
    ap (λ l. l ++ own c (lines_of (begun_after w e) es)) (none_own e c w is) ∙ later v (beside_after e c w v is a)

own_by : (c : ℕ) (w v : BegunLines) (es : List Happening) → length w ≡ connections → Alike c w v → own c (lines_of w es) ≡ own c (lines_of v (events_of c es))
own_by c w v [] count a = refl
own_by c w v (e ∷ es) count a =
    let long = unless_by (λ x. length x ≡ length w) (gate_fault w e) _ _ (length_accepted e w) refl ∙ count in
    own-append c (lines_in w e) (lines_of (begun_after w e) es)
    ∙ own_event c w v e es count a (number_of e == c) refl (λ x alike. own_by c (begun_after w e) x es long alike)

pub lines_are_own : LinesAreOwn
lines_are_own c w es count = own_by c w w es count (record { here = refl; count = refl })
