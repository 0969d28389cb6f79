-- What was fed of a trace, one part after another, and its last line.
use Rattle.std.proofs.Common.{◌≡◌, ℕ, ◌+◌, false, List, [], ◌∷◌, ◌++◌, length, Option, Some, Ok, Err, refl, sym, ap, ◌∙◌, add-zero, append-nil}
use Rattle.devices.specs.Devices.{Reads, Writes}
use Rattle.devices.specs.{Reading.Pumps, Reading.ReadSo, Reading.Taken, Reading.TakenUntil, Reading.TakesEach, Reading.joined, declared.reading.Stop.Stop}
use Rattle.devices.specs.declared.reading.Stop.TheVariants as stop
use Rattle.gateway.proofs.Prelude.{IsAtEnd, LinesCut, complete, unfinished, Traffic, text_lines, StopsAtBad, StopsInPrint, PlaysLines, Traces, Received}
use Rattle.gateway.proofs.Prelude.{PlaysLine, FeedsOn, Anything, Fed, FedUntil, fault_by, numbered_fault, LineFault, Bad, Write, OutOfMemory, TracePlace}
use Rattle.gateway.proofs.Feeding.{Begins, bad-next, unprinted-next, unkept-next, plays-append, feeds-nil, feeds-trans, feeds-stop}
use Rattle.gateway.specs.{Trace.TracesText, Trace.trace_write_failures, TraceLines.line_write_failures}

-- ---- one part after another

module _ (cuts : LinesCut) {G W : Type 0} (traffic : G → Traffic) (took : W → Writes) where
  abbrev pub Takes : List ℕ → TracePlace × G × W → TracePlace × G × W → Type 0
  Takes bytes s t = Fed bytes (traffic s.1) (traffic t.1) (took s.2) (took t.2) s.0 t.0

  abbrev pub Stops : LineFault → List ℕ → TracePlace × G × W → TracePlace × G × W → Type 0
  Stops f bytes s t = FedUntil f bytes (traffic s.1) (traffic t.1) (took s.2) (took t.2) s.0 t.0

  each : (parts : List (List ℕ)) (s t : TracePlace × G × W) → TakesEach Takes parts s t → Takes (joined parts) s t
  each [] s t p = rw p (record { feeds = feeds-nil (traffic s.1) (took s.2).written s.0; fine = refl })
  each (part ∷ parts) s t p =
      let before = each parts s p.0 p.1 in
      record { feeds = feeds-trans cuts (joined parts) part _ _ _ _ _ _ _ _ _ before.feeds p.2.feeds; fine = p.2.fine ∙ before.fine }

  pub fed-all : (bytes : List ℕ) (s t : TracePlace × G × W) → Taken Takes bytes s t → Takes bytes s t
  fed-all bytes s t p = rw p.is (each p.parts s t p.each)

  pub fed-until : (f : LineFault) (bytes : List ℕ) (s t : TracePlace × G × W) → TakenUntil Takes (Stops f) bytes s t → Stops f bytes s t
  fed-until f bytes s t p =
      let before = fed-all p.first s p.mid p.taken in
      rw p.is (record {
        stops = feeds-stop cuts f t.0.number p.first p.rest _ _ _ _ _ _ _ _ before.feeds p.stops.stops;
        failed = p.stops.failed ∙ ap (λ n. n + line_write_failures {A = Unit {0}} (Err f)) before.fine;
      })

-- ---- a whole trace

-- nothing comes behind the end
pub no_later : (rest : Option (List ℕ)) → IsAtEnd rest → (later : List ℕ) → rest ≡ Some later → later ≡ []
no_later rest end later is = rw is at end

-- from the first line on
module _ (t u : Traffic) (m : Option (List ℕ)) (v w : Writes) (p q : TracePlace) (fresh : p.begun ≡ Received [])
    (plain : p.comment ≡ false) (first : p.number ≡ 1) (read : List ℕ) where
  begin : Begins p []
  begin = rw (fresh, plain) (refl, refl)

  pub complete-lines : Fed read t u v w p q → PlaysLines (complete [] read) t u v.written w.written
  complete-lines fed = let on = fed.feeds [] begin in record { out = on.out; appends = on.appends; prints = on.prints }

  at-bad : (n : ℕ) → StopsAtBad n p.number [] read Anything t u v.written w.written → StopsAtBad n 1 [] read (λ later. m ≡ Some later) t u v.written w.written
  at-bad n s =
      bad-next (record { out = s.out; appends = s.appends; prints = s.prints }) n 1 (s.number ∙ ap (λ n. n + length s.first) first)
      (λ later any. s.bad later tt) refl refl

  in-print : StopsInPrint [] read Anything t u v.written w.written → StopsInPrint [] read (λ later. m ≡ Some later) t u v.written w.written
  in-print s = record {
    first = s.first;
    last = s.last;
    event = s.event;
    cut = λ later any. s.cut later tt;
    counts = s.counts;
    is = s.is;
    mid = s.mid;
    sent = s.sent;
    part = s.part;
    appends = s.appends;
    prints = s.prints;
    stops = s.stops;
  }

  pub text-until : (A : Type 0) (f : LineFault) → FedUntil f read t u v w p q
      → TracesText {A = A} (Err (numbered_fault f q.number)) read m t u v.written w.written
  text-until A Bad s = at-bad q.number (s.stops [] begin)
  text-until A Write s = in-print (s.stops [] begin)
  text-until A OutOfMemory s = s.stops [] begin

  -- the last line, at the reader's end
  module _ (fed : Fed read t u v w p q) (end : IsAtEnd m) where
    on : FeedsOn [] read t u v.written w.written p q
    on = fed.feeds [] begin

    last-number : q.number ≡ 1 + length (complete [] read)
    last-number = on.number ∙ ap (λ n. n + length (complete [] read)) first

    lines-then : (later : List ℕ) → m ≡ Some later → text_lines [] (read ++ later) ≡ text_lines [] read
    lines-then later is = rw (no_later m end later is, append-nil read)

    pub finished : (A : Type 0) (a : A) (x : Traffic) (z : Option (List ℕ))
        → ((line : List ℕ) → Begins q line → PlaysLine {A = Unit {0}} (Ok tt) line u x w.written z) → TracesText {A = A} (Ok a) read m t x v.written z
    finished A a x z plays =
        let done = plays (unfinished [] read) on.next in
        plays-append (complete-lines fed)
        (record { out = done.0; appends = done.1; prints = (x, done.0, [], done.2, (refl, refl), sym (append-nil done.0)) })

    pub unplayed : (A : Type 0) (f : LineFault) (x : Traffic) (z : Option (List ℕ))
        → ((line : List ℕ) → Begins q line → PlaysLine {A = Unit {0}} (Err f) line u x w.written z)
        → TracesText {A = A} (Err (numbered_fault f q.number)) read m t x v.written z
    unplayed A Bad x z plays =
        let done = plays (unfinished [] read) on.next in
        bad-next (complete-lines fed) q.number 1 last-number (λ later is. (unfinished [] read, [], lines-then later is, done.0)) done.1 done.2
    unplayed A Write x z plays =
        let done = plays (unfinished [] read) on.next in
        unprinted-next (complete-lines fed) (unfinished [] read) (λ later is. ([], lines-then later is)) done
    unplayed A OutOfMemory x z plays =
        unkept-next (complete-lines fed) (unfinished [] read) [] refl (plays (unfinished [] read) on.next)

-- ---- by how the pump ended

pub same_failures : (B : Type 0) (f : LineFault) (n : ℕ) → line_write_failures {A = Unit {0}} (Err f) ≡ trace_write_failures {A = B} (Err (numbered_fault f n))
same_failures B Write n = refl
same_failures B f n = refl

-- what holds of the bytes that were read, in place of what held
pub read_as : {P Q : List ℕ → Type 0} {first last : Reads} (p : ReadSo P first last) → Q p.read → ReadSo Q first last
read_as p holds = record { read = p.read; received = p.received; consumes = p.consumes; holds = holds }

module _ (cuts : LinesCut) {G W : Type 0} (traffic : G → Traffic) (took : W → Writes) (first last : Reads) (s r : TracePlace × G × W)
    (fresh : s.0.begun ≡ Received []) (plain : s.0.comment ≡ false) (one : s.0.number ≡ 1) where
  fed_fine : ReadSo (λ read. Taken (Takes cuts traffic took) read s r) first last
      → ReadSo (λ read. PlaysLines (complete [] read) (traffic s.1) (traffic r.1) (took s.2).written (took r.2).written) first last
      × ((took r.2).failures ≡ (took s.2).failures + 0)
  fed_fine p =
      let fed = fed-all cuts traffic took p.read s r p.holds in (
        read_as p (complete-lines _ _ last.left _ _ _ _ fresh plain one p.read fed),
        fed.fine ∙ sym (add-zero (took s.2).failures),
      )

  pub trace_stopped : (A B : Type 0) (stop : Stop LineFault) → Pumps {A = A} (Takes cuts traffic took) (Stops cuts traffic took) (Err stop) first last s r
      → Traces {A = B} (Err (fault_by stop r.0.number)) (traffic s.1) (traffic r.1) first last (took s.2).written (took r.2).written
      × ((took r.2).failures ≡ (took s.2).failures + trace_write_failures {A = B} (Err (fault_by stop r.0.number)))
  trace_stopped A B stop.Read p = fed_fine p
  trace_stopped A B stop.TooManyReads p = fed_fine p
  trace_stopped A B (stop.Taker f) p =
      let fed = fed-until cuts traffic took f p.read s r p.holds in (
        read_as p (text-until _ _ last.left _ _ _ _ fresh plain one p.read B f fed),
        fed.failed ∙ ap (λ n. (took s.2).failures + n) (same_failures B f r.0.number),
      )

  module _ (p : ReadSo (λ read. Taken (Takes cuts traffic took) read s r) first last) (end : IsAtEnd last.left) (v : Traffic) (z : Writes) where
    fed : Fed p.read (traffic s.1) (traffic r.1) (took s.2) (took r.2) s.0 r.0
    fed = fed-all cuts traffic took p.read s r p.holds

    pub trace_finished : (B : Type 0) (b : B)
        → ((line : List ℕ) → Begins r.0 line → PlaysLine {A = Unit {0}} (Ok tt) line (traffic r.1) v (took r.2).written z.written)
        → z.failures ≡ (took r.2).failures + 0 → Traces {A = B} (Ok b) (traffic s.1) v first last (took s.2).written z.written
        × (z.failures ≡ (took s.2).failures + 0)
    trace_finished B b plays fine = (
      read_as p (finished _ _ last.left _ _ _ _ fresh plain one p.read fed end B b v z.written plays),
      fine ∙ ap (λ n. n + 0) fed.fine,
    )

    pub trace_unplayed : (B : Type 0) (f : LineFault)
        → ((line : List ℕ) → Begins r.0 line → PlaysLine {A = Unit {0}} (Err f) line (traffic r.1) v (took r.2).written z.written)
        → z.failures ≡ (took r.2).failures + line_write_failures {A = Unit {0}} (Err f)
        → Traces {A = B} (Err (numbered_fault f r.0.number)) (traffic s.1) v first last (took s.2).written z.written
        × (z.failures ≡ (took s.2).failures + trace_write_failures {A = B} (Err (numbered_fault f r.0.number)))
    trace_unplayed B f plays failed = (
      read_as p (unplayed _ _ last.left _ _ _ _ fresh plain one p.read fed end B f v z.written plays),
      failed ∙ ap (λ n. n + line_write_failures {A = Unit {0}} (Err f)) fed.fine ∙ ap (λ n. (took s.2).failures + n) (same_failures B f r.0.number),
    )
