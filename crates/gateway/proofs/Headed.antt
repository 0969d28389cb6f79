-- What was taken of a trace that may have a head, one part after another.
use Rattle.std.proofs.Common.{◌≡◌, ℕ, zero, suc, ◌+◌, ◌-◌, ◌<◌, ◌≤◌, ◌⊎◌, IfOk, Bool, true, false, List, [], ◌∷◌, ◌++◌, length, take, ◌==◌, Option, Result, Ok}
use Rattle.std.proofs.Common.{Err, refl, sym, ap, ◌∙◌, subst, arith, add-zero, append_assoc, append-nil, length-append, length-take, inl, inr}
use Rattle.desk.specs.Desk.{Office}
use Rattle.devices.specs.Devices.{Reads, Writes}
use Rattle.devices.specs.{Reading.Pumps, Reading.ReadSo, Reading.Taken, Reading.TakesEach, Reading.TakesFront, Reading.joined, declared.reading.Stop.Stop}
use Rattle.gateway.proofs.Prelude.{IsAtEnd, LinesCut, complete, Traffic, text_lines, PlaysLines, MayBe, PlaysLine, Fed, FedUntil, fault_by, numbered_fault}
use Rattle.gateway.proofs.{Prelude.LineFault, Prelude.Bad, Prelude.Write, Prelude.OutOfMemory, Prelude.TracePlace, Heads.heads_go_on, Heads.none_begun}
use Rattle.gateway.specs.Head.{HeadOn, HeadTakes, IsOver, HeadPlace, FinishesHead, first_place, essence, may_head, heading, EndsHead, IsBadIn}
use Rattle.gateway.specs.Headed.{behind, with_desk, BehindHead, HeadAlone, ObeysText, TracesHeaded}
use Rattle.gateway.{proofs.Feeding.feeds-nil, proofs.Feeding.feeds-trans, proofs.Feeding.feeds-stop, specs.declared.traces.head.HeadFault.HeadFault}
use Rattle.gateway.specs.HeadedFeeding.{head_line_fault, IsFresh, FedHead, LeftHead, FedBoth, HeadedBy, HeadedFed, HeadStops, HeadedStopsBy, HeadedFedUntil}
use Rattle.gateway.specs.{declared.traces.headed.HeadedPlace.HeadedPlace, declared.traces.fault.TraceFault.TraceFault, TraceLines.line_write_failures}
use Rattle.gateway.specs.Trace.{TracesText, trace_write_failures}
use Rattle.gateway.proofs.Tracing.{complete-lines, text-until, no_later, finished, unplayed, same_failures, read_as}
use Rattle.devices.specs.declared.reading.Stop.TheVariants as stop
use Rattle.gateway.specs.declared.traces.head.HeadFault.TheVariants as head
use Rattle.gateway.specs.declared.traces.fault.TraceFault.TheVariants as fault

-- ---- two parts

fed-two : LinesCut → (a b : List ℕ) (t u v : Traffic) (x y z : Writes) (p q r : TracePlace) → Fed a t u x y p q → Fed b u v y z q r → Fed (a ++ b) t v x z p r
fed-two cuts a b t u v x y z p q r one two = record { feeds = feeds-trans cuts a b _ _ _ _ _ _ _ _ _ one.feeds two.feeds; fine = two.fine ∙ one.fine }

stops-two : LinesCut → (f : LineFault) (a b : List ℕ) (t u v : Traffic) (x y z : Writes) (p q r : TracePlace) → Fed a t u x y p q
    → FedUntil f b u v y z q r → FedUntil f (a ++ b) t v x z p r
stops-two cuts f a b t u v x y z p q r one two = record {
  stops = feeds-stop cuts f r.number a b _ _ _ _ _ _ _ _ one.feeds two.stops;
  failed = two.failed ∙ ap (λ n. n + line_write_failures {A = Unit {0}} (Err f)) one.fine;
}

still_over : (back more : List ℕ) → 0 < length back → may_head back ≡ false → may_head (back ++ more) ≡ false
still_over [] more some over = absurd (omega (arith, some))
still_over (b ∷ bs) more some over = over

module _ (cuts : LinesCut) (a b : List ℕ) (t u v : Traffic) (x y z : Writes) (p q r : HeadedPlace) where
  head-then : FedHead a t u x y p q → FedHead b u v y z q r → FedHead (a ++ b) t v x z p r
  head-then one two = record {
    on = heads_go_on cuts _ _ _ _ _ _ a b one.on two.on;
    lines = two.lines ∙ one.lines;
    silent = two.silent ∙ one.silent;
    place = λ f. two.place (one.place f);
    number = λ n. two.number (one.number n);
  }

  left-later : {front back : List ℕ} {mid : Office} {place : TracePlace} → FedHead a t u x y p q → LeftHead front back u q r mid place
      → LeftHead (a ++ front) back t p r mid place
  left-later {front} {back} one two =
      let on = heads_go_on cuts _ _ _ _ _ _ a front one.on two.on in
      let begun = λ (f : IsFresh p.place). two.begun (one.place f) in assumption

  head-both : FedHead a t u x y p q → FedBoth b u v y z q r → FedBoth (a ++ b) t v x z p r
  head-both one two = record {
    front = a ++ two.front;
    back = two.back;
    cut = ap (λ l. a ++ l) two.cut ∙ sym (append_assoc a two.front two.back);
    mid = two.mid;
    place = two.place;
    left = left-later one two.left;
    behind = rw (one.silent, one.lines) at two.behind;
  }

  left-more : {front back : List ℕ} {mid : Office} {place : TracePlace} (more : List ℕ) → LeftHead front back t p q mid place
      → r.head ≡ q.head → LeftHead front (back ++ more) t p r mid place
  left-more {front} {back} {mid} {place} more one same = record {
    on = rw same one.on;
    ends = rw same one.ends;
    over = still_over back more one.some one.over;
    some = omega (arith, one.some, length-append back more);
    begun = one.begun;
    number = rw same one.number;
  }

  both-then : FedBoth a t u x y p q → Fed b u v y z q.place r.place → r.head ≡ q.head → FedBoth (a ++ b) t v x z p r
  both-then one two same = record {
    front = one.front;
    back = one.back ++ b;
    cut = ap (λ l. l ++ b) one.cut ∙ append_assoc one.front one.back b;
    mid = one.mid;
    place = one.place;
    left = left-more b one.left same;
    behind = fed-two cuts one.back b _ _ _ _ _ _ _ _ _ one.behind two;
  }

  two-parts : (i j k : Bool) → HeadedBy i j a t u x y p q → HeadedBy j k b u v y z q r → HeadedBy i k (a ++ b) t v x z p r
  two-parts true true true one two = (fed-two cuts a b _ _ _ _ _ _ _ _ _ one.0 two.0, two.1 ∙ one.1)
  two-parts true false k one two = absurd one
  two-parts false false false one two = head-then one two
  two-parts false false true one two = head-both one two
  two-parts false true true one two = both-then one two.0 two.1
  two-parts i true false one two = absurd two

-- ---- the numbers of lines, counted from behind the head

abbrev from_one : TracePlace → TracePlace
from_one p = record p { number = 1 }

abbrev counted : ℕ → TracePlace → TracePlace
counted lines q = record q { number = q.number - lines }

module _ (lines : ℕ) {p q : TracePlace} (number : p.number ≡ lines + 1) {bytes : List ℕ} {t u : Traffic} {x y : Writes} where
  fed-counted : Fed bytes t u x y p q → Fed bytes t u x y (from_one p) (counted lines q)
  fed-counted fed = record {
    feeds = λ line m.
        let on = fed.feeds line m in
        record { out = on.out; appends = on.appends; prints = on.prints; next = on.next; number = omega (arith, on.number, number) };
    fine = fed.fine;
  }

  until-counted : (f : LineFault) → FedUntil f bytes t u x y p q → FedUntil f bytes t u x y (from_one p) (counted lines q)
  until-counted Bad until = record {
    stops = λ line m.
        let s = until.stops line m in
        record { first = s.first; number = omega (arith, s.number, number); bad = s.bad; out = s.out; appends = s.appends; prints = s.prints };
    failed = until.failed;
  }
  until-counted f until = record { stops = until.stops; failed = until.failed }

  numbered-until : (A : Type 0) (f : LineFault) → IsFresh p → FedUntil f bytes t u x y p q
      → ◌≡◌ {A = Result A TraceFault} (Err (numbered_fault f q.number)) (behind lines (Err (numbered_fault f (q.number - lines))))
  numbered-until A Bad fresh until =
      let s = until.stops [] (rw (fresh.begun, fresh.plain) (refl, refl)) in
      let sum : q.number ≡ lines + (q.number - lines) = omega (arith, s.number, number) in ap (λ k. Err (numbered_fault Bad k)) sum
  numbered-until A f fresh until = refl

  numbered-fed : (A : Type 0) (f : LineFault) → IsFresh p → Fed bytes t u x y p q
      → ◌≡◌ {A = Result A TraceFault} (Err (numbered_fault f q.number)) (behind lines (Err (numbered_fault f (q.number - lines))))
  numbered-fed A Bad fresh fed =
      let on = fed.feeds [] (rw (fresh.begun, fresh.plain) (refl, refl)) in
      let sum : q.number ≡ lines + (q.number - lines) = omega (arith, on.number, number) in ap (λ k. Err (numbered_fault Bad k)) sum
  numbered-fed A f fresh fed = refl

-- ---- all parts

module _ {W : Type 0} (took : W → Writes) where
  abbrev pub Takes : List ℕ → HeadedPlace × Traffic × W → HeadedPlace × Traffic × W → Type 0
  Takes bytes s t = HeadedFed bytes s.1 t.1 (took s.2) (took t.2) s.0 t.0

  abbrev pub Stops : LineFault → List ℕ → HeadedPlace × Traffic × W → HeadedPlace × Traffic × W → Type 0
  Stops f bytes s t = HeadedFedUntil f bytes s.1 t.1 (took s.2) (took t.2) s.0 t.0

pub none : (i : Bool) (t : Traffic) (x : Writes) (p : HeadedPlace) → HeadedBy i i [] t t x x p p
none true t x p = (record { feeds = feeds-nil t x.written p.place; fine = refl }, refl)
none false t x p = record { on = record { obeys = refl; begun = refl; count = omega arith }; lines = refl; silent = refl; place = λ f. f; number = λ n. n }

module _ (cuts : LinesCut) {W : Type 0} (took : W → Writes) where
  each : (parts : List (List ℕ)) (s t : HeadedPlace × Traffic × W) → TakesEach (Takes took) parts s t → Takes took (joined parts) s t
  each [] s t p = rw p (none s.0.over s.1 (took s.2) s.0)
  each (part ∷ parts) s t p = two-parts cuts (joined parts) part s.1 p.0.1 t.1 (took s.2) (took p.0.2) (took t.2) s.0 p.0.0 t.0 s.0.over
      p.0.0.over t.0.over (each parts s p.0 p.1) p.2

  pub taken-all : (bytes : List ℕ) (s t : HeadedPlace × Traffic × W) → Taken (Takes took) bytes s t → Takes took bytes s t
  taken-all bytes s t p = rw p.is (each p.parts s t p.each)

-- ---- bytes that were taken at once, by the answer

traffic_same : (u t : Traffic) → u.office ≡ t.office → u.lines ≡ t.lines → u ≡ t
traffic_same u t a b = λ i. record { office = a i; lines = b i }

by_heads : {i j k l : Bool} (bytes : List ℕ) (t u : Traffic) (x y : Writes) (p q : HeadedPlace) → k ≡ i → l ≡ j
    → HeadedBy i j bytes t u x y p q → HeadedBy k l bytes t u x y p q
by_heads bytes t u x y p q was is h = rw (was, is) h

stops_by_heads : {i j k l : Bool} (f : LineFault) (bytes : List ℕ) (t u : Traffic) (x y : Writes) (p q : HeadedPlace) → k ≡ i → l ≡ j
    → HeadedStopsBy i j f bytes t u x y p q → HeadedStopsBy k l f bytes t u x y p q
stops_by_heads f bytes t u x y p q was is h = rw (was, is) h

pub some_there : (xs : List ℕ) (b : Bool) → b ≡ (length xs == 0) → b ≡ false → 0 < length xs
some_there [] b is no-bytes = let never : true ≡ false = sym is ∙ no-bytes in cc
some_there (x ∷ xs) b is no-bytes = omega arith

module _ {W : Type 0} (took : W → Writes) where
  abbrev pub PlaceTakes : List ℕ → TracePlace × Traffic × W → TracePlace × Traffic × W → Type 0
  PlaceTakes bytes s t = Fed bytes s.1 t.1 (took s.2) (took t.2) s.0 t.0

  abbrev pub PlaceStops : LineFault → List ℕ → TracePlace × Traffic × W → TracePlace × Traffic × W → Type 0
  PlaceStops f bytes s t = FedUntil f bytes s.1 t.1 (took s.2) (took t.2) s.0 t.0

  module _ (bytes : List ℕ) (s t : HeadedPlace × Traffic × W) where
    abbrev At : Result ℕ LineFault → Type 0
    At r = TakesFront (Takes took) (Stops took) r bytes s t

    -- behind the head
    pub over_takes : (r : Result ℕ LineFault) → s.0.over ≡ true → t.0.over ≡ true → t.0.head ≡ s.0.head
        → TakesFront PlaceTakes PlaceStops r bytes (s.0.place, s.1, s.2) (t.0.place, t.1, t.2) → At r
    over_takes (Ok n) was is same p = by_heads _ _ _ _ _ _ _ was is (p, same)
    over_takes (Err f) was is same p = stops_by_heads f _ _ _ _ _ _ _ was is (p, same)

    -- a line of the head is at fault
    pub head_stops : (f : HeadFault) → s.0.over ≡ false → t.0.over ≡ false → t.1.lines ≡ s.1.lines → took t.2 ≡ took s.2 → t.0.place.number ≡ s.0.place.number
        → HeadTakes (Err f) bytes s.1.office t.1.office s.0.head t.0.head → At (Err (head_line_fault f))
    head_stops head.Bad was is lines silent number h = stops_by_heads Bad _ _ _ _ _ _ _ was is (h.0, traffic_same t.1 s.1 h.1 lines, silent, number)
    head_stops head.OutOfMemory was is lines silent number h = stops_by_heads OutOfMemory _ _ _ _ _ _ _ was is (traffic_same t.1 s.1 h lines, silent)

    -- bytes of the head
    pub head_takes : (n : ℕ) → s.0.over ≡ false → t.0.over ≡ false → t.1.lines ≡ s.1.lines → took t.2 ≡ took s.2 → (IsFresh s.0.place → IsFresh t.0.place)
        → (s.0.place.number ≡ s.0.head.lines + 1 → t.0.place.number ≡ t.0.head.lines + 1)
        → HeadOn (take n bytes) s.1.office t.1.office s.0.head t.0.head → At (Ok n)
    head_takes n was is lines silent begun number on =
        by_heads _ _ _ _ _ _ _ was is (record { on = on; lines = lines; silent = silent; place = begun; number = number })

    -- the head is left: no byte was taken of it
    module _ (g : Traffic) (h : HeadPlace) (place : TracePlace) (was : s.0.over ≡ false) (is : t.0.over ≡ true) (some : 0 < length bytes)
        (over : IsOver s.0.head bytes)
        (on : HeadOn [] s.1.office g.office s.0.head h) (lines : g.lines ≡ s.1.lines) (begun : IsFresh s.0.place → IsFresh place)
        (number : place.number ≡ h.lines + 1) (kept : t.0.head ≡ h) where
      left-at : (back : List ℕ) → 0 < length back → may_head back ≡ false → LeftHead [] back s.1 s.0 t.0 g.office place
      left-at back more none = record {
        on = rw kept on;
        ends = rw kept (none_begun h.line (on.begun ∙ ap essence over.0));
        over = none;
        some = more;
        begun = begun;
        number = rw kept number;
      }

      front_none : (n : ℕ) (xs : List ℕ) → may_head xs ≡ false → may_head (take n xs) ≡ false
      front_none zero xs e = refl
      front_none (suc n) [] e = refl
      front_none (suc n) (x ∷ xs) e = e

      pub left_takes : (r : Result ℕ LineFault) → IfOk r (λ n. n ≤ length bytes) → IfOk r (λ n. 0 < length bytes → 0 < n)
          → TakesFront PlaceTakes PlaceStops r bytes (place, g, s.2) (t.0.place, t.1, t.2) → At r
      left_takes (Ok n) bound more p =
          let long : 0 < length (take n bytes) = omega (arith, length-take n bytes, more some, some, bound) in
          by_heads _ _ _ _ _ _ _ was is (record {
            front = [];
            back = take n bytes;
            cut = refl;
            mid = g.office;
            place = place;
            left = left-at (take n bytes) long (front_none n bytes over.1);
            behind = rw (← lines) p;
          })
      left_takes (Err f) bound more p =
          let left = left-at bytes some over.1 in
          stops_by_heads f _ _ _ _ _ _ _ was is
          (record { front = []; back = bytes; cut = refl; mid = g.office; place = place; left = left; behind = rw (← lines) p })

bad_line : (o p : Office) (line parts more : List ℕ) → EndsHead {A = Unit {0}} (Err head.Bad) line (heading o parts) (heading p more)
    → IsBadIn line (heading o parts) × (p ≡ o)
bad_line o p [] parts more ends = let never = ends.0 in cc
bad_line o p (b ∷ bs) parts more ends = ends

same_office : (o p : Office) (line parts more : List ℕ) → EndsHead {A = Unit {0}} (Err head.OutOfMemory) line (heading o parts) (heading p more) → p ≡ o
same_office o p [] parts more ends = let never = ends.0 in cc
same_office o p (b ∷ bs) parts more ends = ends

-- ---- from the first line on

module _ (t : Traffic) (x : Writes) (p : HeadedPlace) (top : p.head ≡ first_place) (begun : IsFresh p.place) (one : p.place.number ≡ 1) where
  begins : p.place.number ≡ p.head.lines + 1
  begins = omega (arith, one, ap (λ (h : HeadPlace). h.lines) top)

  from_first : {bytes : List ℕ} {o : Office} {h : HeadPlace} → HeadOn bytes t.office o p.head h → HeadOn bytes t.office o first_place h
  from_first on = rw top at on

  -- behind the head, whatever came of it
  module _ {u : Traffic} {front back : List ℕ} {q : HeadedPlace} {mid : Office} {place : TracePlace} (left : LeftHead front back t p q mid place) where
    behind-head : {A : Type 0} {read : List ℕ} {rest z : Option (List ℕ)} (r answer : Result A TraceFault) → read ≡ front ++ back
        → r ≡ behind q.head.lines answer → TracesText answer back rest (with_desk t mid) u x.written z → BehindHead r read rest t u x.written z
    behind-head {A} {read} {rest} {z} r answer cut numbered traces = record {
      head = front;
      body = back;
      is = cut;
      office = mid;
      place = q.head;
      obeyed = from_first left.on;
      ends = left.ends;
      over = left.over;
      some = left.some;
      answer = answer;
      numbered = numbered;
      traces = traces;
    }

    lines-behind : (A : Type 0) (r : Result A TraceFault) (rest : Option (List ℕ)) {read : List ℕ} {y : Writes} → read ≡ front ++ back
        → r ≡ behind q.head.lines r
        → (TracesText r back rest (with_desk t mid) u x.written y.written ≡ PlaysLines (complete [] back) (with_desk t mid) u x.written y.written)
        → Fed back (with_desk t mid) u x y place q.place → BehindHead r read rest t u x.written y.written
    lines-behind A r rest {read} {y} cut numbered same fed =
        let fresh = left.begun begun in
        behind-head r r cut numbered (subst (λ (T : Type 0). T) (sym same)
        (complete-lines _ _ rest _ _ (from_one place) _ fresh.begun fresh.plain refl _ (fed-counted q.head.lines left.number fed)))

    until-behind : (A : Type 0) (f : LineFault) (rest : Option (List ℕ)) {read : List ℕ} {y : Writes} → read ≡ front ++ back
        → FedUntil f back (with_desk t mid) u x y place q.place → BehindHead {A = A} (Err (numbered_fault f q.place.number)) read rest t u x.written y.written
    until-behind A f rest {read} {y} cut until =
        let fresh = left.begun begun in
        behind-head _ (Err (numbered_fault f (q.place.number - q.head.lines))) cut (numbered-until q.head.lines left.number A f fresh until)
        (text-until _ _ rest _ _ (from_one place) _ fresh.begun fresh.plain refl _ A f (until-counted q.head.lines left.number f until))

  -- ---- by how the pump ended

  -- reading ended without a fault of a line
  read-by : (A : Type 0) (r : Result A TraceFault) (rest : Option (List ℕ)) (read : List ℕ) (k : Bool) (u : Traffic) (y : Writes) (q : HeadedPlace)
      → ((lines : ℕ) → r ≡ behind lines r)
      → ((old : Traffic) (back : List ℕ) → TracesText r back rest old u x.written y.written ≡ PlaysLines (complete [] back) old u x.written y.written)
      → ((new : Office) → ObeysText r read rest t.office new ≡ ((place : HeadPlace) × HeadOn read t.office new first_place place))
      → HeadedBy false k read t u x y p q → HeadAlone r read rest t u x.written y.written ⊎ BehindHead r read rest t u x.written y.written
  read-by A r rest read false u y q numbered same obeys fed =
      inl (record {
        obeys = subst (λ (T : Type 0). T) (sym (obeys u.office)) (q.head, from_first fed.on);
        lines = fed.lines;
        silent = rw fed.silent;
      })
  read-by A r rest read true u y q numbered same obeys fed =
      inr (lines-behind fed.left A r rest fed.cut (numbered q.head.lines) (same (with_desk t fed.mid) fed.back) fed.behind)

  fine-by : (read : List ℕ) (k : Bool) (u : Traffic) (y : Writes) (q : HeadedPlace) → HeadedBy false k read t u x y p q → y.failures ≡ x.failures
  fine-by read false u y q fed = ap (λ (w : Writes). w.failures) fed.silent
  fine-by read true u y q fed = fed.behind.fine

  -- a line was at fault
  stop-head : (A : Type 0) (f : LineFault) (rest : Option (List ℕ)) (read a b : List ℕ) (m u : Traffic) (w y : Writes) (h q : HeadedPlace)
      → read ≡ a ++ b → FedHead a t m x w p h → HeadStops f b m u w y h q
      → HeadAlone {A = A} (Err (numbered_fault f q.place.number)) read rest t u x.written y.written
  stop-head A Bad rest read a b m u w y h q cut fed stops = rw (stops.1, stops.2, fed.silent) (record {
    obeys = (a, b, h.head, cut, from_first fed.on, stops.3 ∙ fed.number begins, λ later any. stops.0 later tt);
    lines = fed.lines;
    silent = refl;
  })
  stop-head A Write rest read a b m u w y h q cut fed stops = absurd stops
  stop-head A OutOfMemory rest read a b m u w y h q cut fed stops =
      rw (stops.0, stops.1, fed.silent) (record { obeys = (a, b, h.head, cut, from_first fed.on); lines = fed.lines; silent = refl })

  stop-by : LinesCut → (A : Type 0) (f : LineFault) (rest : Option (List ℕ)) (read a b : List ℕ) (i j : Bool) (m u : Traffic)
      (w y : Writes) (h q : HeadedPlace) → read ≡ a ++ b → HeadedBy false i a t m x w p h → HeadedStopsBy i j f b m u w y h q
      → HeadAlone {A = A} (Err (numbered_fault f q.place.number)) read rest t u x.written y.written
      ⊎ BehindHead {A = A} (Err (numbered_fault f q.place.number)) read rest t u x.written y.written
  stop-by cuts A f rest read a b true true m u w y h q cut fed stops =
      let left = left-more cuts a b t m u x w y p h q b fed.left stops.1 in
      inr (until-behind left A f rest (cut ∙ ap (λ l. l ++ b) fed.cut ∙ append_assoc fed.front fed.back b)
      (stops-two cuts f fed.back b _ _ _ _ _ _ _ _ _ fed.behind stops.0))
  stop-by cuts A f rest read a b true false m u w y h q cut fed stops = absurd stops
  stop-by cuts A f rest read a b false false m u w y h q cut fed stops = inl (stop-head A f rest read a b m u w y h q cut fed stops)
  stop-by cuts A f rest read a b false true m u w y h q cut fed stops =
      inr (until-behind (left-later cuts a b t m u x w y p h q fed stops.left) A f rest (cut ∙ ap (λ l. a ++ l) stops.cut
      ∙ sym (append_assoc a stops.front stops.back)) (rw (fed.silent, fed.lines) at stops.behind))

  failed-by : (f : LineFault) (a b : List ℕ) (i j : Bool) (m u : Traffic) (w y : Writes) (h q : HeadedPlace)
      → HeadedBy false i a t m x w p h → HeadedStopsBy i j f b m u w y h q → y.failures ≡ x.failures + line_write_failures {A = Unit {0}} (Err f)
  failed-by f a b true true m u w y h q fed stops = stops.0.failed ∙ ap (λ n. n + line_write_failures {A = Unit {0}} (Err f)) fed.behind.fine
  failed-by f a b true false m u w y h q fed stops = absurd stops
  failed-by Bad a b false false m u w y h q fed stops = rw (stops.2, fed.silent) (sym (add-zero x.failures))
  failed-by Write a b false false m u w y h q fed stops = absurd stops
  failed-by OutOfMemory a b false false m u w y h q fed stops = rw (stops.1, fed.silent) (sym (add-zero x.failures))
  failed-by f a b false true m u w y h q fed stops = rw fed.silent at stops.behind.failed

  -- ---- the last line

  module _ {read : List ℕ} {u : Traffic} {y : Writes} {q : HeadedPlace} (rest : Option (List ℕ)) (end : IsAtEnd rest) where
    -- of a head
    last-head : (A : Type 0) (a : A) (v : Traffic) (h : HeadPlace) → FedHead read t u x y p q → v.lines ≡ u.lines
        → FinishesHead {A = Unit {0}} (Ok tt) u.office v.office q.head h → HeadAlone (Ok a) read rest t v x.written y.written
    last-head A a v h fed lines finishes = record {
      obeys = (u.office, q.head, h, from_first fed.on, finishes);
      lines = lines ∙ fed.lines;
      silent = rw fed.silent;
    }

    unfinished-head : (A : Type 0) (f : HeadFault) (v : Traffic) (h : HeadPlace) → FedHead read t u x y p q → v.lines ≡ u.lines
        → FinishesHead {A = Unit {0}} (Err f) u.office v.office q.head h
        → HeadAlone {A = A} (Err (numbered_fault (head_line_fault f) q.place.number)) read rest t v x.written y.written
    unfinished-head A head.Bad v h fed lines finishes =
        let bad = bad_line u.office v.office q.head.line q.head.parts h.parts finishes in record {
          obeys = rw bad.1 (
            read,
            [],
            q.head,
            sym (append-nil read),
            from_first fed.on,
            fed.number begins,
            λ later is.
                (q.head.line, [], ap (text_lines q.head.line) (no_later rest end later is), bad.0),
          );
          lines = lines ∙ fed.lines;
          silent = rw fed.silent;
        }
    unfinished-head A head.OutOfMemory v h fed lines finishes =
        let office = same_office u.office v.office q.head.line q.head.parts h.parts finishes in record {
          obeys = rw office (read, [], q.head, sym (append-nil read), from_first fed.on);
          lines = lines ∙ fed.lines;
          silent = rw fed.silent;
        }

    -- behind the head
    last-behind : (A : Type 0) (a : A) (v : Traffic) (z : Option (List ℕ)) → FedBoth read t u x y p q
        → ((line : List ℕ) → MayBe q.place.begun q.place.comment line → PlaysLine {A = Unit {0}} (Ok tt) line u v y.written z)
        → BehindHead (Ok a) read rest t v x.written z
    last-behind A a v z fed plays =
        let fresh = fed.left.begun begun in
        behind-head fed.left (Ok a) (Ok a) fed.cut refl
        (finished _ _ rest _ _ (from_one fed.place) _ fresh.begun fresh.plain refl _ (fed-counted q.head.lines fed.left.number fed.behind) end A a v z plays)

    unplayed-behind : (A : Type 0) (f : LineFault) (v : Traffic) (z : Option (List ℕ)) → FedBoth read t u x y p q
        → ((line : List ℕ) → MayBe q.place.begun q.place.comment line → PlaysLine {A = Unit {0}} (Err f) line u v y.written z)
        → BehindHead {A = A} (Err (numbered_fault f q.place.number)) read rest t v x.written z
    unplayed-behind A f v z fed plays =
        let fresh = fed.left.begun begun in
        let counts = fed-counted q.head.lines fed.left.number fed.behind in
        behind-head fed.left _ (Err (numbered_fault f (q.place.number - q.head.lines))) fed.cut
        (numbered-fed q.head.lines fed.left.number A f fresh fed.behind)
        (unplayed _ _ rest _ _ (from_one fed.place) _ fresh.begun fresh.plain refl _ counts end A f v z plays)

none_failed : (B : Type 0) (f : HeadFault) (n : ℕ) → 0 ≡ trace_write_failures {A = B} (Err (numbered_fault (head_line_fault f) n))
none_failed B head.Bad n = refl
none_failed B head.OutOfMemory n = refl

-- ---- by how the pump ended, and the last line

module _ (cuts : LinesCut) {W : Type 0} (took : W → Writes) (first last : Reads) (s r : HeadedPlace × Traffic × W)
    (start : s.0.over ≡ false) (top : s.0.head ≡ first_place)
    (begun : IsFresh s.0.place) (one : s.0.place.number ≡ 1) where
  by-bytes : (m : HeadedPlace × Traffic × W) (read : List ℕ) → Taken (Takes took) read s m → HeadedBy false m.0.over read s.1 m.1 (took s.2) (took m.2) s.0 m.0
  by-bytes m read p = by_heads _ _ _ _ _ _ _ (sym start) refl (taken-all cuts took read s m p)

  pub headed_stopped : (A B : Type 0) (stop : Stop LineFault) → Pumps {A = A} (Takes took) (Stops took) (Err stop) first last s r
      → TracesHeaded {A = B} (Err (fault_by stop r.0.place.number)) s.1 r.1 first last (took s.2).written (took r.2).written
      × ((took r.2).failures ≡ (took s.2).failures + trace_write_failures {A = B} (Err (fault_by stop r.0.place.number)))
  headed_stopped A B stop.Read p =
      let fed = by-bytes r p.read p.holds in (
        read_as p (read-by s.1 (took s.2) s.0 top begun one B (Err fault.Read) last.left p.read r.0.over r.1 (took r.2) r.0
            (λ lines. refl) (λ old back. refl) (λ new. refl) fed),
        fine-by s.1 (took s.2) s.0 top begun one p.read r.0.over r.1 (took r.2) r.0 fed ∙ sym (add-zero (took s.2).failures),
      )
  headed_stopped A B stop.TooManyReads p =
      let fed = by-bytes r p.read p.holds in (
        read_as p (read-by s.1 (took s.2) s.0 top begun one B (Err fault.TooManyReads) last.left p.read r.0.over r.1 (took r.2) r.0
            (λ lines. refl) (λ old back. refl) (λ new. refl) fed),
        fine-by s.1 (took s.2) s.0 top begun one p.read r.0.over r.1 (took r.2) r.0 fed ∙ sym (add-zero (took s.2).failures),
      )
  headed_stopped A B (stop.Taker f) p =
      let h = p.holds in
      let fed = by-bytes h.mid h.first h.taken in (
        read_as p (stop-by s.1 (took s.2) s.0 top begun one cuts B f last.left p.read h.first h.rest h.mid.0.over r.0.over h.mid.1 r.1
            (took h.mid.2) (took r.2) h.mid.0 r.0 h.is fed h.stops),
        failed-by s.1 (took s.2) s.0 top begun one f h.first h.rest h.mid.0.over r.0.over h.mid.1 r.1 (took h.mid.2)
            (took r.2) h.mid.0 r.0 fed h.stops ∙ ap (λ n. (took s.2).failures + n) (same_failures B f r.0.place.number),
      )

  -- at the end
  module _ (p : ReadSo (λ read. Taken (Takes took) read s r) first last) (end : IsAtEnd last.left) where
    in-head : r.0.over ≡ false → FedHead p.read s.1 r.1 (took s.2) (took r.2) s.0 r.0
    in-head still = subst (λ b. HeadedBy false b p.read s.1 r.1 (took s.2) (took r.2) s.0 r.0) still (by-bytes r p.read p.holds)

    behind-it : r.0.over ≡ true → FedBoth p.read s.1 r.1 (took s.2) (took r.2) s.0 r.0
    behind-it left = subst (λ b. HeadedBy false b p.read s.1 r.1 (took s.2) (took r.2) s.0 r.0) left (by-bytes r p.read p.holds)

    abbrev Reached : {B : Type 0} → Result B TraceFault → Traffic → Writes → Type 0
    Reached {B} answer v z = TracesHeaded answer s.1 v first last (took s.2).written z.written
        × (z.failures ≡ (took s.2).failures + trace_write_failures answer)

    pub head_finished : (B : Type 0) (b : B) (v : Traffic) (h : HeadPlace) → r.0.over ≡ false → v.lines ≡ r.1.lines
        → FinishesHead {A = Unit {0}} (Ok tt) r.1.office v.office r.0.head h → Reached (Ok b) v (took r.2)
    head_finished B b v h still lines finishes =
        let fed = in-head still in (
          read_as p (inl (last-head s.1 (took s.2) s.0 top begun one last.left end B b v h fed lines finishes)),
          ap (λ (w : Writes). w.failures) fed.silent ∙ sym (add-zero (took s.2).failures),
        )

    pub head_unfinished : (B : Type 0) (f : HeadFault) (v : Traffic) (h : HeadPlace) → r.0.over ≡ false → v.lines ≡ r.1.lines
        → FinishesHead {A = Unit {0}} (Err f) r.1.office v.office r.0.head h
        → Reached {B = B} (Err (numbered_fault (head_line_fault f) r.0.place.number)) v (took r.2)
    head_unfinished B f v h still lines finishes =
        let fed = in-head still in (
          read_as p (inl (unfinished-head s.1 (took s.2) s.0 top begun one last.left end B f v h fed lines finishes)),
          ap (λ (w : Writes). w.failures) fed.silent ∙ sym (add-zero (took s.2).failures)
              ∙ ap (λ n. (took s.2).failures + n) (none_failed B f r.0.place.number),
        )

    pub body_finished : (B : Type 0) (b : B) (v : Traffic) (z : Writes) → r.0.over ≡ true
        → ((line : List ℕ) → MayBe r.0.place.begun r.0.place.comment line → PlaysLine {A = Unit {0}} (Ok tt) line r.1 v (took r.2).written z.written)
        → z.failures ≡ (took r.2).failures + 0 → Reached (Ok b) v z
    body_finished B b v z left plays fine =
        let fed = behind-it left in (
          read_as p (inr (last-behind s.1 (took s.2) s.0 top begun one last.left end B b v z.written fed plays)),
          fine ∙ ap (λ n. n + 0) fed.behind.fine,
        )

    pub body_unplayed : (B : Type 0) (f : LineFault) (v : Traffic) (z : Writes) → r.0.over ≡ true
        → ((line : List ℕ) → MayBe r.0.place.begun r.0.place.comment line → PlaysLine {A = Unit {0}} (Err f) line r.1 v (took r.2).written z.written)
        → z.failures ≡ (took r.2).failures + line_write_failures {A = Unit {0}} (Err f) → Reached {B = B} (Err (numbered_fault f r.0.place.number)) v z
    body_unplayed B f v z left plays failed =
        let fed = behind-it left in (
          read_as p (inr (unplayed-behind s.1 (took s.2) s.0 top begun one last.left end B f v z.written fed plays)),
          failed ∙ ap (λ n. n + line_write_failures {A = Unit {0}} (Err f)) fed.behind.fine
              ∙ ap (λ n. (took s.2).failures + n) (same_failures B f r.0.place.number),
        )
