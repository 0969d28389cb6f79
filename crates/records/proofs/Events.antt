-- What is recorded of an event.
use Rattle.std.proofs.Common.{◌≡◌, ℕ, ◌<◌, ◌==◌, Bool, true, false, List, [], ◌∷◌, ◌++◌, length, take, drop, Option, None, Some, if◌then◌else◌, slice_set}
use Rattle.std.proofs.Common.{refl, sym, ap, ◌∙◌, append-nil, arith, length-take, length-append, take_all, get_or-set_same, lt-ltb}
use Rattle.std.proofs.lemmas.{List.set-set, List.take-append-drop, Slice.Eq.bytes_eq-Decides}
use Rattle.base64.{specs.GeneralPurpose.IsBytes, proofs.EngineFacts.front_bytes}
use Rattle.connections.specs.{CitedLaws.EventsGoOn, CitedLaws.LinesCut, Traffic.Traffic, Traffic.Partial, Traffic.Received, Lines.has_end, Lines.before_end}
use Rattle.connections.specs.Events.{Happening, Opening, Bringing, Closing, connections, at_number, gate_fault, with_line, Took, Happens}
use Rattle.connections.specs.Clients.{Numbered, number_of, sent_to, Occurs, OccurAll, BegunLines, or_empty, StandFor}
use Rattle.desk.specs.Desk.{Office}
use Rattle.line_protocol.specs.Replies.{memory_text}
unfoldable use Rattle.line_protocol.specs.Step.{Replies}
use Rattle.gateway.specs.Trace.{after_ends}
use Rattle.records.{proofs.Lines.first_not, specs.Lines.record_of, specs.Lines.IsRecordable}
use Rattle.records.specs.Records.{reports_memory, IsShort, NoneRanOut, IsRecord, EventsAreRecorded}

-- ---- events that are accepted

accepted : (t u : Traffic) (e : Happening) (taken : ℕ) (reply : Option (List ℕ)) → gate_fault t.lines e ≡ None → Happens t e taken reply u
    → Occurs t e (sent_to (number_of e) reply) u
accepted t u e taken reply fault h = rw fault (taken, reply, h, refl)

alone : (t u : Traffic) (e : Happening) (rs : List Numbered) → Occurs t e rs u → OccurAll t (e ∷ []) rs u
alone t u e rs o = (u, rs, [], o, (refl, refl), sym (append-nil rs))

-- ---- the bytes that were taken

end_here : (xs : List ℕ) → has_end (xs ++ 10 ∷ []) ≡ true
end_here [] = refl
end_here (x ∷ xs) = elim (x == 10) as (λ b. (if b then true else has_end (xs ++ 10 ∷ [])) ≡ true) [ true ↦ refl | false ↦ end_here xs ]

before_here : (xs : List ℕ) → has_end xs ≡ false → before_end (xs ++ 10 ∷ []) ≡ xs
before_here [] e = refl
before_here (x ∷ xs) e = let both = first_not (x == 10) (has_end xs) e in rw both.0 (ap (λ l. x ∷ l) (before_here xs both.1))

none_past : (xs ys : List ℕ) → has_end xs ≡ false → after_ends (xs ++ ys) ≡ after_ends ys
none_past [] ys e = refl
none_past (x ∷ xs) ys e = let both = first_not (x == 10) (has_end xs) e in rw both.0 (none_past xs ys both.1)

-- bytes up to the end that was taken do the same, and hold no line feed but at their end
abbrev Same : Traffic → ℕ → List ℕ → ℕ → Option (List ℕ) → Traffic → Type 0
Same t c bytes taken reply u = Took t c bytes taken reply u × (0 < length bytes) × (after_ends bytes ≡ [])

module _ (cuts : LinesCut) (t u : Traffic) (c : ℕ) (bytes : List ℕ) (taken : ℕ) (reply : Option (List ℕ))
    (took : Took t c bytes taken reply u) (some : 0 < length bytes) where
  front_of : has_end bytes ≡ true → take taken bytes ≡ before_end bytes ++ 10 ∷ []
  front_of e =
      let cut = cuts.cut_at_end bytes e in
      ap (λ n. take n bytes) (rw e at took.takes.count) ∙ cuts.taken_at_end bytes (before_end bytes) cut.0 cut.1

  front_took : has_end bytes ≡ true → Took t c (before_end bytes ++ 10 ∷ []) taken reply u
  front_took e = record {
    begun = took.begun;
    next = took.next;
    was = took.was;
    takes = record {
      count = rw (end_here (before_end bytes), before_here (before_end bytes) (cuts.before_without bytes)) (rw e at took.takes.count);
      step = rw (end_here (before_end bytes), before_here (before_end bytes) (cuts.before_without bytes)) (rw e at took.takes.step);
    };
    lines = took.lines;
  }

  same_by : (end : Bool) → has_end bytes ≡ end → Same t c (take taken bytes) taken reply u
  same_by true e =
      rw (front_of e)
      (front_took e, omega (arith, length-append (before_end bytes) (10 ∷ [])), none_past (before_end bytes) (10 ∷ []) (cuts.before_without bytes))
  same_by false e =
      let gone = rw e at took.takes.count in
      rw (take_all taken bytes (omega (arith, gone))) (took, some, rw (append-nil bytes) at (none_past bytes [] e))

  same : Same t c (take taken bytes) taken reply u
  same = same_by (has_end bytes) refl

-- ---- a reply that doesn't report that memory ran out

none_ran_out : (c : ℕ) (reply : Option (List ℕ)) → reports_memory reply ≡ false → NoneRanOut (sent_to c reply)
none_ran_out c None e = tt
none_ran_out c (Some text) e = (λ same. (let is = (bytes_eq-Decides text memory_text).1 same in cc), tt)

-- ---- a line for which memory ran out

abbrev traffic_of : Office → List (Option Partial) → Traffic
traffic_of o l = record { office = o; lines = l }

traffic_is : (u : Traffic) (o : Office) (l : List (Option Partial)) → u.office ≡ o → u.lines ≡ l → u ≡ traffic_of o l
traffic_is u o l p q = λ i. traffic_of (p i) (q i)

abbrev MemoryChangesNothing : Type 0
MemoryChangesNothing = (old new : Office) (line : List ℕ) → Replies old line memory_text new → new ≡ old

module _ (law : EventsGoOn) (nothing : MemoryChangesNothing) (t u : Traffic) (w : BegunLines) (c : ℕ) (bytes : List ℕ) (taken : ℕ) (s : StandFor t w)
    (fault : gate_fault t.lines (Closing c) ≡ None) (took : Took t c bytes taken (Some memory_text) u) where
  small : c < connections
  small = law.small t (Closing c) fault

  within : c < length t.lines
  within = omega (arith, small, s.counted)

  fresh_by : (end : Bool) → has_end bytes ≡ end → u ≡ with_line t c (Some (Received []))
  fresh_by true e =
      let done = rw e at took.takes.step in
      let text : done.text ≡ memory_text = let is = done.is in cc in
      let line : List ℕ = or_empty (at_number w c) in
      let answers = rw text at (done.answers line (law.stood t w c took.begun s took.was)) in
      let lines = took.lines ∙ ap (λ l. slice_set t.lines c (Some l)) done.fresh in
      traffic_is u t.office (slice_set t.lines c (Some (Received []))) (nothing t.office u.office (line ++ before_end bytes) answers) lines
  fresh_by false e = let more = rw e at took.takes.step in let never = more.silent in cc

  again : OccurAll t (Closing c ∷ Opening c ∷ []) [] u
  again =
      let mid : Traffic = with_line t c None in
      let fresh = fresh_by (has_end bytes) refl in
      let closes : Occurs t (Closing c) [] mid = rw fault (0, None, (refl, refl, refl), refl) in
      let free : gate_fault mid.lines (Opening c) ≡ None = rw (lt-ltb c connections small, get_or-set_same t.lines c None None within) refl in
      let moved : u ≡ with_line mid c (Some (Received [])) = fresh ∙ ap (λ l. traffic_of t.office l) (sym (set-set t.lines c None (Some (Received [])))) in
      let opens : Occurs mid (Opening c) [] u = rw free (0, None, (refl, refl, moved), refl) in
      (mid, [], [], closes, alone mid u (Opening c) [] opens, refl)

-- ---- an event of bytes

module _ (cuts : LinesCut) (law : EventsGoOn) (nothing : MemoryChangesNothing) (t u : Traffic) (w : BegunLines) (c : ℕ) (bytes : List ℕ) (taken : ℕ)
    (s : StandFor t w)
    (short : IsShort (Bringing c bytes)) (are_bytes : IsBytes bytes) (fault : gate_fault t.lines (Bringing c bytes) ≡ None) where
  low : c < 256
  low = omega (arith, law.small t (Bringing c bytes) fault)

  taken_bytes : IsBytes (take taken bytes)
  taken_bytes = front_bytes (take taken bytes) (drop taken bytes) (rw take-append-drop are_bytes)

  by_reply : (reply : Option (List ℕ)) (b : Bool) → reports_memory reply ≡ b → Took t c bytes taken reply u
      → IsRecord t (record_of (if b then Closing c ∷ Opening c ∷ [] else Bringing c (take taken bytes) ∷ [])) u
  by_reply None true e took = cc
  by_reply (Some text) true e took =
      let is : text ≡ memory_text = (bytes_eq-Decides text memory_text).0 e in
      record {
        events = Closing c ∷ Opening c ∷ [];
        replies = [];
        recordable = (low, (low, tt));
        occur = again law nothing t u w c bytes taken s fault (rw is at took);
        none_ran_out = tt;
        is = refl;
      }
  by_reply reply false e took =
      let part = same cuts t u c bytes taken reply took short.0 in record {
        events = Bringing c (take taken bytes) ∷ [];
        replies = sent_to c reply;
        recordable = ((low, taken_bytes, part.1, omega (arith, length-take taken bytes, short.1), part.2), tt);
        occur = alone t u (Bringing c (take taken bytes)) (sent_to c reply) (accepted t u (Bringing c (take taken bytes)) taken reply fault part.0);
        none_ran_out = none_ran_out c reply e;
        is = refl;
      }

-- an event that opens or closes is recorded as itself
one_recorded : (t u : Traffic) (e : Happening) (taken : ℕ) (reply : Option (List ℕ)) → IsRecordable e → gate_fault t.lines e ≡ None
    → Happens t e taken reply u → reply ≡ None → IsRecord t (record_of (e ∷ [])) u
one_recorded t u e taken reply fits fault h none = record {
  events = e ∷ [];
  replies = [];
  recordable = (fits, tt);
  occur = alone t u e [] (rw none at (accepted t u e taken reply fault h));
  none_ran_out = tt;
  is = refl;
}

pub events_are_recorded : LinesCut → EventsGoOn → MemoryChangesNothing → EventsAreRecorded
events_are_recorded cuts law nothing t u w (Opening c) taken reply s short bytes fault h =
    one_recorded t u (Opening c) taken reply (omega (arith, law.small t (Opening c) fault)) fault h h.1
events_are_recorded cuts law nothing t u w (Bringing c bytes) taken reply s short are fault h =
    by_reply cuts law nothing t u w c bytes taken s short are fault reply (reports_memory reply) refl h
events_are_recorded cuts law nothing t u w (Closing c) taken reply s short bytes fault h =
    one_recorded t u (Closing c) taken reply (omega (arith, law.small t (Closing c) fault)) fault h h.1
