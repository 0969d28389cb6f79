-- Connections that are closed one after another, and what is written of it.
use Rattle.std.proofs.Common.{◌≡◌, ℕ, ◌+◌, ◌<◌, ◌≤◌, List, [], ◌∷◌, ◌++◌, length, replicate, Option, None, Some, IsSome, Result, Ok, Err, IfOk, OnErr}
use Rattle.std.proofs.Common.{inl, inr, zero, suc, if◌then◌else◌, slice_set, refl, ap, subst, sym, ◌∙◌, append-nil, append_assoc, length-append}
use Rattle.std.proofs.Common.{get_or-set_same, get_or-set_other, lt-ltb, arith}
use Rattle.std.proofs.{KnownBytes.Appends-nil, KnownBytes.Appends-trans, lemmas.Bool.Decides.eqb_tells}
use Rattle.std.specs.Option.{is_some}
use Rattle.connections.specs.Traffic.{Traffic, Partial}
use Rattle.connections.specs.Events.{Happening, Closing, connections, at_number, unless_open, gate_fault, line_at, Happens, TakeFaultIs}
use Rattle.connections.specs.declared.gateway.{GateFault.GateFault, Out.Out, TakeFault.TakeFault, TakeFault.TheVariants.Refused, TakeFault.TheVariants.Unkept}
use Rattle.records.{proofs.Played.record-append, specs.Lines.record_of, specs.Lines.words_of}
use Rattle.records.specs.Losses.{IsKept, IsLeft, IsWritten, closings, left_of, seen_as}
use Rattle.records.specs.Records.{Records}
use Rattle.records.specs.declared.{loss.Loss.Loss, record.EventFault.TheVariants.Unrecorded, record.EventFault.TheVariants.OutOfMemory}

-- ---- no connection is open

pub none_open : (lines : List (Option Partial)) (n : ℕ) → length lines ≡ n → ((d : ℕ) → d < n → at_number lines d ≡ None) → lines ≡ replicate n None
none_open [] zero count none = refl
none_open [] (suc n) count none = cc
none_open (x ∷ xs) zero count none = cc
none_open (x ∷ xs) (suc n) count none =
    rw (none 0 (omega arith)) (ap (λ l. None ∷ l) (none_open xs n (omega (arith, count)) (λ d small. none (suc d) (omega (arith, small)))))

not_open : (x : Option Partial) (why : GateFault) → unless_open x ≡ Some why → x ≡ None
not_open None why e = refl
not_open (Some x) why e = cc

-- where connections below one are closed and that one closes, or can't, those up to it are
pub closed_below : (r : Result Out TakeFault) (t u : Traffic) (c : ℕ) → c < connections → length t.lines ≡ connections
    → TakeFaultIs r (Closing c) (gate_fault t.lines (Closing c)) → OnErr r (u ≡ t)
    → IfOk r (λ out. Happens t (Closing c) out.taken out.reply u) → ((d : ℕ) → d < c → line_at t d ≡ None) → (d : ℕ) → d < c + 1 → line_at u d ≡ None
closed_below (Ok out) t u c small count fault same step below d within = ap (λ (x : Traffic). line_at x d) step.2
    ∙ elim (eqb_tells d c) as (λ _. at_number (slice_set t.lines c None) d ≡ None) [
      | inl here ↦ rw here.1 (get_or-set_same t.lines c None None (omega (arith, small, count)))
      | inr away ↦ get_or-set_other t.lines c d None None away.1 ∙ below d (let other = away.1 in omega (arith, within, other))
    ]
closed_below (Err (Refused why)) t u c small count fault same step below d within =
    let shut : line_at t c ≡ None = not_open (line_at t c) why (rw (lt-ltb c connections small) at fault) in
    ap (λ (x : Traffic). line_at x d) same ∙ elim (eqb_tells d c) as (λ _. line_at t d ≡ None) [
      | inl here ↦ rw here.1 shut
      | inr away ↦ below d (let other = away.1 in omega (arith, within, other))
    ]
closed_below (Err Unkept) t u c small count fault same step below d within = absurd fault

-- ---- the desk, and the connections that are still open

-- a close leaves the desk, and the connections above its own
pub closed_beside : (r : Result Out TakeFault) (t u : Traffic) (c : ℕ) → TakeFaultIs r (Closing c) (gate_fault t.lines (Closing c)) → OnErr r (u ≡ t)
    → IfOk r (λ out. Happens t (Closing c) out.taken out.reply u) → (u.office ≡ t.office) × ((d : ℕ) → c < d → line_at u d ≡ line_at t d)
closed_beside (Ok out) t u c fault same step = (
  ap (λ (x : Traffic). x.office) step.2,
  λ d above. ap (λ (x : Traffic). line_at x d) step.2 ∙ get_or-set_other t.lines c d None None (λ here. absurd (omega (arith, here, above))),
)
closed_beside (Err (Refused why)) t u c fault same step = (ap (λ (x : Traffic). x.office) same, λ d above. ap (λ (x : Traffic). line_at x d) same)
closed_beside (Err Unkept) t u c fault same step = absurd fault

-- ---- what is written

pub none_written : (lost : Option Loss) (known : Option (List ℕ)) → IsWritten lost [] known known
none_written None known = Appends-nil known
none_written (Some loss) known = inr refl

line_counts : (e : Happening) → 0 < length (record_of (e ∷ []))
line_counts e = omega (arith, length-append (words_of e) (10 ∷ []))

none_lost : {X : Type 0} → IsSome {T = Loss} None → X
none_lost e = cc

-- the lines of some events, and then the line of one more
written_on : (lost later : Option Loss) (xs : List Happening) (e : Happening) (b m a : Option (List ℕ)) → IsWritten lost xs b m
    → (IsSome lost → IsSome later × (a ≡ m)) → IsWritten later (e ∷ []) m a → IsWritten later (xs ++ e ∷ []) b a
written_on None None xs e b m a before same after = rw (record-append xs (e ∷ [])) (Appends-trans b m a _ _ before after)
written_on None (Some loss) xs e b m a before same (inl (front, rest, are, some, there)) =
    inl (
      record_of xs ++ front,
      rest,
      record-append xs (e ∷ []) ∙ ap (λ l. record_of xs ++ l) are ∙ sym (append_assoc (record_of xs) front rest),
      some,
      Appends-trans b m a _ _ before there,
    )
written_on None (Some loss) xs e b m a before same (inr none) =
    inl (record_of xs, record_of (e ∷ []), record-append xs (e ∷ []), line_counts e, rw none before)
written_on (Some loss) None xs e b m a before same after = none_lost (same refl).0
written_on (Some loss) (Some more) xs e b m a (inl (front, rest, are, some, there)) same after =
    inl (
      front,
      rest ++ record_of (e ∷ []),
      record-append xs (e ∷ []) ∙ ap (λ l. l ++ record_of (e ∷ [])) are ∙ append_assoc front rest (record_of (e ∷ [])),
      omega (arith, length-append rest (record_of (e ∷ [])), some),
      rw ((same refl).1) there,
    )
written_on (Some loss) (Some more) xs e b m a (inr none) same after = inr ((same refl).1 ∙ none)

-- a connection that is open is closed
closes_open : (x : Option Partial) (c : ℕ) → unless_open x ≡ None → (if is_some x then Closing c ∷ [] else []) ≡ Closing c ∷ []
closes_open None c e = cc
closes_open (Some x) c e = refl

-- what is written of a close that is accepted, without that it is a record
lines_of_kept : (lost : Option Loss) (es : List Happening) (t u : Traffic) (m a : Option (List ℕ)) → IsKept lost es t u m a → IsWritten lost es m a
lines_of_kept None es t u m a kept = kept.0
lines_of_kept (Some loss) es t u m a kept = kept

closes_on : (r : Result Out TakeFault) (lost later : Option Loss) (start t u : Traffic) (c : ℕ) (b m a : Option (List ℕ)) → c < connections
    → TakeFaultIs r (Closing c) (gate_fault t.lines (Closing c)) → IfOk r (λ out. IsKept later (Closing c ∷ []) t u m a)
    → IsLeft r (Closing c) t lost later m a → (IsSome lost → IsSome later × (a ≡ m)) → line_at t c ≡ line_at start c
    → IsWritten lost (closings c start) b m → IsWritten later (closings (suc c) start) b a
closes_on (Ok out) lost later start t u c b m a small fault kept left same here before =
    let there : unless_open (line_at start c) ≡ None = rw (← here) (rw (lt-ltb c connections small) at fault) in
    subst (λ es. IsWritten later (closings c start ++ es) b a) (sym (closes_open (line_at start c) c there))
    (written_on lost later (closings c start) (Closing c) b m a before same (lines_of_kept later (Closing c ∷ []) t u m a kept))
closes_on (Err (Refused why)) lost later start t u c b m a small fault kept left same here before =
    let shut : line_at start c ≡ None = sym here ∙ not_open (line_at t c) why (rw (lt-ltb c connections small) at fault) in
    rw (shut, append-nil (closings c start), left.0, left.1) before
closes_on (Err Unkept) lost later start t u c b m a small fault kept left same here before = absurd fault

-- where the lines of the closes below a number were written, those up to it are behind its close, or where it can't be closed
pub closings_written : (r : Result Out TakeFault) (lost later : Option Loss) (start t u : Traffic) (c : ℕ) (b m a : Option (List ℕ)) → c < connections
    → TakeFaultIs r (Closing c) (gate_fault t.lines (Closing c)) → IfOk r (λ out. IsKept later (Closing c ∷ []) t u m a)
    → IsLeft r (Closing c) t lost later m a → (IsSome lost → IsSome later × (a ≡ m)) → line_at t c ≡ line_at start c
    → IsWritten lost (closings c start) b m → IsWritten later (closings (c + 1) start) b a
closings_written r lost later start t u c b m a small fault kept left same here before =
    let up : suc c ≡ c + 1 = omega arith in
    subst (λ n. IsWritten later (closings n start) b a) up (closes_on r lost later start t u c b m a small fault kept left same here before)

-- ---- bytes of which the device took a part

pub not_lost : {X : Type 0} (lost : Option Loss) → lost ≡ None → IsSome lost → X
not_lost None none some = none_lost some
not_lost (Some x) none some = cc

pub lost_as : (lost : Option Loss) (t : Traffic) (loss : Loss) → lost ≡ None → left_of loss ≡ t → left_of loss ≡ seen_as lost t
lost_as None t loss none is = is
lost_as (Some x) t loss none is = cc

pub lost_now : (e : Happening) (t u : Traffic) (b a : Option (List ℕ)) (lost : Option Loss) (loss : Loss) → lost ≡ None
    → Records (Err Unrecorded) e t u b a → IsLeft {A = Out} (Err Unkept) e (seen_as lost t) lost (Some loss) b a
lost_now e t u b a None loss none (taken, reply, happens, part) = inr (refl, refl, (taken, reply, u, happens, inl part))
lost_now e t u b a (Some x) loss none it = cc

pub lost_unwritten : (e : Happening) (t u : Traffic) (b a : Option (List ℕ)) (lost : Option Loss) (loss : Loss) → lost ≡ None
    → Records (Err OutOfMemory) e t u b a → IsLeft {A = Out} (Err Unkept) e (seen_as lost t) lost (Some loss) b a
lost_unwritten e t u b a None loss none (taken, reply, happens, same) = inr (refl, refl, (taken, reply, u, happens, inr same))
lost_unwritten e t u b a (Some x) loss none it = cc
