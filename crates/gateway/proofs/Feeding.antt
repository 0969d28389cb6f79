-- Lines of a trace, one after another.
use Rattle.std.proofs.Common.{◌≡◌, ℕ, ◌+◌, Bool, true, false, List, [], ◌∷◌, ◌++◌, length, take, Option, Result, Ok, Err, refl, sym, ap, ◌∙◌}
use Rattle.std.proofs.Common.{append_assoc, append-nil, arith, length-append}
use Rattle.gateway.proofs.Prelude.{take_all, Appends-trans, Appends-nil, Appends, LinesCut, complete, unfinished, has_end, before_end, Traffic, is_skipped}
use Rattle.gateway.proofs.Prelude.{IsBad, PrintsLine, PrintsAll, text_lines, StopsAtBad, StopsInPrint, StopsForMemory, PlaysLines, Drops, MayBe, Partial}
use Rattle.gateway.proofs.Prelude.{PlaysLine, Received, Stuck, is_comment, FeedsOn, Feeds, Anything, FeedStops, LineFault, Bad, Write, OutOfMemory, TracePlace}
use Rattle.connections.specs.Traffic.{taken_of}

-- the line that is begun at a place may be this one
abbrev pub Begins : TracePlace → List ℕ → Type 0
Begins p line = MayBe p.begun p.comment line

pub prints-append : (t u v : Traffic) (xs ys : List (List ℕ)) (a b : List ℕ) → PrintsAll t xs a u → PrintsAll u ys b v → PrintsAll t (xs ++ ys) (a ++ b) v
prints-append t u v [] ys a b p q = rw p.0 (rw p.1 at q)
prints-append t u v (x ∷ xs) ys a b p q =
    (p.0, p.1, p.2 ++ b, p.3, prints-append p.0 u v xs ys p.2 b p.4 q, ap (λ l. l ++ b) p.5 ∙ append_assoc p.1 p.2 b)

-- ---- lines that were played, and the next one, which stops

pub played-none : (t : Traffic) (x : Option (List ℕ)) → PlaysLines [] t t x x
played-none t x = record { out = []; appends = Appends-nil x; prints = (refl, refl) }

pub plays-append : {t u v : Traffic} {x y z : Option (List ℕ)} {ls ms : List (List ℕ)} → PlaysLines ls t u x y → PlaysLines ms u v y z
    → PlaysLines (ls ++ ms) t v x z
plays-append {t} {u} {v} {x} {y} {z} {ls} {ms} p q = record {
  out = p.out ++ q.out;
  appends = Appends-trans x y z p.out q.out p.appends q.appends;
  prints = prints-append t u v ls ms p.out q.out p.prints q.prints;
}

module _ {t u v : Traffic} {x y z : Option (List ℕ)} {first : List (List ℕ)} (p : PlaysLines first t u x y) {line bytes : List ℕ} where
  pub bad-next : {P : List ℕ → Type 0} (n from : ℕ) → n ≡ from + length first
      → ((w : List ℕ) → P w → (last : List ℕ) × (more : List (List ℕ)) × (text_lines line (bytes ++ w) ≡ first ++ last ∷ more) × IsBad last)
      → v ≡ u → z ≡ y → StopsAtBad n from line bytes P t v x z
  bad-next n from number bad same still =
      rw (same, still) (record { first = first; number = number; bad = bad; out = p.out; appends = p.appends; prints = p.prints })

  pub unprinted-next : {P : List ℕ → Type 0} (last : List ℕ)
      → ((later : List ℕ) → P later → (more : List (List ℕ)) × (text_lines line (bytes ++ later) ≡ first ++ last ∷ more))
      → PlaysLine {A = Unit {0}} (Err Write) last u v y z → StopsInPrint line bytes P t v x z
  unprinted-next last cut done = record {
    first = first;
    last = last;
    event = done.1;
    cut = cut;
    counts = done.0;
    is = done.2;
    mid = u;
    sent = p.out;
    part = done.3;
    appends = Appends-trans x y z p.out done.3 p.appends done.4;
    prints = p.prints;
    stops = done.5;
  }

  pub unkept-next : (last : List ℕ) (more : List (List ℕ)) → text_lines line bytes ≡ first ++ last ∷ more
      → PlaysLine {A = Unit {0}} (Err OutOfMemory) last u v y z → StopsForMemory line bytes t v x z
  unkept-next last more cut done = rw (done.1, done.2)
      (record { first = first; last = last; more = more; cut = cut; counts = done.0; out = p.out; appends = p.appends; prints = p.prints })

-- ---- the lines of a text in two parts

lines-append : (cuts : LinesCut) (line a b : List ℕ) → text_lines line (a ++ b) ≡ complete line a ++ text_lines (unfinished line a) b
lines-append cuts line a b =
    rw (cuts.unfinished-append line a b, cuts.complete-append line a b) (append_assoc (complete line a) (complete (unfinished line a) b) _)

lines-append-later : (cuts : LinesCut) (line a b later : List ℕ) (first rest : List (List ℕ)) (last : List ℕ)
    → text_lines (unfinished line a) (b ++ later) ≡ first ++ last ∷ rest → text_lines line ((a ++ b) ++ later) ≡ (complete line a ++ first) ++ last ∷ rest
lines-append-later cuts line a b later first rest last e =
    rw (append_assoc a b later, lines-append cuts line a (b ++ later), e) (sym (append_assoc (complete line a) first (last ∷ rest)))

-- the first line goes on with what is left of it
first-line-by : (cuts : LinesCut) (t : Bool) (line bytes : List ℕ) → has_end bytes ≡ t → (more : List ℕ) × (rest : List (List ℕ))
    × (text_lines line bytes ≡ (line ++ more) ∷ rest)
first-line-by cuts true line bytes e =
    let cut = cuts.cut_at_end bytes e in
    let lines = ap (complete line) cut.1 ∙ cuts.complete_at_end line (before_end bytes) cut.0 (cuts.before_without bytes) in
    (before_end bytes, _, ap (λ l. l ++ unfinished line bytes ∷ []) lines)
first-line-by cuts false line bytes e = (bytes, [], rw (cuts.complete_without line bytes e, cuts.unfinished_without line bytes e))

pub first-line : (cuts : LinesCut) (line bytes : List ℕ) → (more : List ℕ) × (rest : List (List ℕ)) × (text_lines line bytes ≡ (line ++ more) ∷ rest)
first-line cuts line bytes = first-line-by cuts (has_end bytes) line bytes refl

-- ---- bytes that were fed, and more bytes

pub feeds-nil : (t : Traffic) (x : Option (List ℕ)) (p : TracePlace) → Feeds [] t t x x p p
feeds-nil t x p line m = record { out = []; appends = Appends-nil x; prints = (refl, refl); next = m; number = omega arith }

pub feeds-trans : (cuts : LinesCut) (a b : List ℕ) (t u v : Traffic) (x y z : Option (List ℕ)) (p q r : TracePlace) → Feeds a t u x y p q
    → Feeds b u v y z q r → Feeds (a ++ b) t v x z p r
feeds-trans cuts a b t u v x y z p q r one two line m =
    let first = one line m in
    let second = two (unfinished line a) first.next in
    let n = length-append (complete line a) (complete (unfinished line a) b) in record {
      out = first.out ++ second.out;
      appends = Appends-trans x y z first.out second.out first.appends second.appends;
      prints = rw (cuts.complete-append line a b)
          (prints-append t u v (complete line a) (complete (unfinished line a) b) first.out second.out first.prints second.prints);
      next = rw (cuts.unfinished-append line a b) second.next;
      number = rw (cuts.complete-append line a b) (omega (arith, n, first.number, second.number));
    }

module _ (cuts : LinesCut) {line a : List ℕ} {t u v : Traffic} {x y z : Option (List ℕ)} {p q : TracePlace} (one : FeedsOn line a t u x y p q) where
  both : {first : List (List ℕ)} → PlaysLines first u v y z → PlaysLines (complete line a ++ first) t v x z
  both two = plays-append (record { out = one.out; appends = one.appends; prints = one.prints }) two

  stops-at-bad : {b : List ℕ} (n : ℕ) → StopsAtBad n q.number (unfinished line a) b Anything u v y z → StopsAtBad n p.number line (a ++ b) Anything t v x z
  stops-at-bad {b} n two =
      bad-next (both (record { out = two.out; appends = two.appends; prints = two.prints })) n p.number
      (omega (arith, length-append (complete line a) two.first, one.number, two.number))
      (λ later any. let f = two.bad later any in (f.0, f.1, lines-append-later cuts line a b later two.first f.1 f.0 f.2, f.3)) refl refl

  stops-in-print : {b : List ℕ} → StopsInPrint (unfinished line a) b Anything u v y z → StopsInPrint line (a ++ b) Anything t v x z
  stops-in-print {b} two = record {
    first = complete line a ++ two.first;
    last = two.last;
    event = two.event;
    cut = λ later any. let found = two.cut later any in (found.0, lines-append-later cuts line a b later two.first found.0 two.last found.1);
    counts = two.counts;
    is = two.is;
    mid = two.mid;
    sent = one.out ++ two.sent;
    part = two.part;
    appends = rw (append_assoc one.out two.sent two.part) (Appends-trans x y z one.out (two.sent ++ two.part) one.appends two.appends);
    prints = prints-append t u two.mid (complete line a) two.first one.out two.sent one.prints two.prints;
    stops = two.stops;
  }

  stops-for-memory : {b : List ℕ} → StopsForMemory (unfinished line a) b u v y z → StopsForMemory line (a ++ b) t v x z
  stops-for-memory {b} two =
      unkept-next (both (record { out = two.out; appends = two.appends; prints = two.prints })) two.last two.more
      (rw (lines-append cuts line a b, two.cut) (sym (append_assoc (complete line a) two.first (two.last ∷ two.more)))) (two.counts, refl, refl)

pub feeds-stop : (cuts : LinesCut) (f : LineFault) (n : ℕ) (a b : List ℕ) (t u v : Traffic) (x y z : Option (List ℕ)) (p q : TracePlace)
    → Feeds a t u x y p q → FeedStops f n b u v y z q → FeedStops f n (a ++ b) t v x z p
feeds-stop cuts Bad n a b t u v x y z p q one two = λ line m. stops-at-bad cuts (one line m) n (two (unfinished line a) (one line m).next)
feeds-stop cuts Write n a b t u v x y z p q one two = λ line m. stops-in-print cuts (one line m) (two (unfinished line a) (one line m).next)
feeds-stop cuts OutOfMemory n a b t u v x y z p q one two = λ line m.
    stops-for-memory cuts (one line m) (two (unfinished line a) (one line m).next)

-- ---- bytes without a line feed

pub more-feeds : (cuts : LinesCut) (bytes : List ℕ) (taken : ℕ) (t : Traffic) (x : Option (List ℕ)) (p q : TracePlace)
    → has_end bytes ≡ false → taken ≡ taken_of bytes → q.number ≡ p.number
    → ((line : List ℕ) → Begins p line → Begins q (line ++ bytes)) → Feeds (take taken bytes) t t x x p q
more-feeds cuts bytes taken t x p q e is same goes line m =
    let all : take taken bytes ≡ bytes = let n = rw e at is in take_all taken bytes (omega (arith, n)) in
    rw all (record {
      out = [];
      appends = Appends-nil x;
      prints = rw (cuts.complete_without line bytes e) (refl, refl);
      next = rw (cuts.unfinished_without line bytes e) (goes line m);
      number = rw (cuts.complete_without line bytes e) (omega (arith, same));
    })

pub more-lines : (cuts : LinesCut) (line bytes later : List ℕ) → has_end bytes ≡ false → text_lines line (bytes ++ later) ≡ text_lines (line ++ bytes) later
more-lines cuts line bytes later e = rw (lines-append cuts line bytes later, cuts.complete_without line bytes e, cuts.unfinished_without line bytes e)

pub more-stops : (cuts : LinesCut) (f : LineFault) (bytes : List ℕ) (t : Traffic) (x : Option (List ℕ)) (p : TracePlace) (known : Partial)
    (comment : Bool) → has_end bytes ≡ false
    → ((line : List ℕ) → Begins p line → MayBe known comment (line ++ bytes)) → ((line : List ℕ) → MayBe known comment line → Stuck f line)
    → FeedStops f p.number bytes t t x x p
more-stops cuts Bad bytes t x p known comment e goes stuck = λ line m.
    bad-next (played-none t x) p.number p.number (omega arith) (λ later any.
    let found = first-line cuts (line ++ bytes) later in
    ((line ++ bytes) ++ found.0, found.1, more-lines cuts line bytes later e ∙ found.2, stuck (line ++ bytes) (goes line m) found.0)) refl refl
more-stops cuts Write bytes t x p known comment e goes stuck = λ line m. absurd (stuck (line ++ bytes) (goes line m))
more-stops cuts OutOfMemory bytes t x p known comment e goes stuck = λ line m.
    unkept-next (played-none t x) (line ++ bytes) [] (rw (cuts.complete_without line bytes e, cuts.unfinished_without line bytes e))
    (stuck (line ++ bytes) (goes line m), refl, refl)

-- ---- bytes with a line feed

module _ (cuts : LinesCut) (bytes : List ℕ) (e : has_end bytes ≡ true) where
  abbrev pub rest : List ℕ
  rest = (cuts.cut_at_end bytes e).0

  cut : bytes ≡ before_end bytes ++ 10 ∷ rest
  cut = (cuts.cut_at_end bytes e).1

  -- the first line ends at the line feed, whatever follows
  pub ended-lines : (line later : List ℕ) → text_lines line (bytes ++ later) ≡ (line ++ before_end bytes) ∷ complete [] (rest ++ later)
      ++ unfinished line (bytes ++ later) ∷ []
  ended-lines line later =
      ap (λ l. l ++ unfinished line (bytes ++ later) ∷ [])
      (ap (λ l. complete line (l ++ later)) cut ∙ ap (complete line) (append_assoc (before_end bytes) (10 ∷ rest) later)
      ∙ cuts.complete_at_end line (before_end bytes) (rest ++ later) (cuts.before_without bytes))

  ended-here : (line : List ℕ) → text_lines line bytes ≡ (line ++ before_end bytes) ∷ complete [] rest ++ unfinished line bytes ∷ []
  ended-here line = ap (λ l. l ++ unfinished line bytes ∷ []) (ap (complete line) cut
      ∙ cuts.complete_at_end line (before_end bytes) rest (cuts.before_without bytes))

  pub end-stops : (t u : Traffic) (x y : Option (List ℕ)) (p : TracePlace) (f : LineFault)
      → ((line : List ℕ) → Begins p line → PlaysLine {A = Unit {0}} (Err f) (line ++ before_end bytes) t u x y) → FeedStops f p.number bytes t u x y p
  end-stops t u x y p Bad plays = λ line m.
      let done = plays line m in
      bad-next (played-none t x) p.number p.number (omega arith) (λ later any. (line ++ before_end bytes, _, ended-lines line later, done.0)) done.1 done.2
  end-stops t u x y p Write plays = λ line m.
      unprinted-next (played-none t x) (line ++ before_end bytes) (λ later any. (_, ended-lines line later)) (plays line m)
  end-stops t u x y p OutOfMemory plays = λ line m.
      unkept-next (played-none t x) (line ++ before_end bytes) _ (ended-here line) (plays line m)

  pub end-feeds : (taken : ℕ) (t u : Traffic) (x y : Option (List ℕ)) (p r : TracePlace) → taken ≡ taken_of bytes → r.begun ≡ Received []
      → r.comment ≡ false → r.number ≡ p.number + 1 → ((line : List ℕ) → Begins p line → (out : List ℕ) × Appends x y out
      × PrintsLine (is_skipped (line ++ before_end bytes)) (line ++ before_end bytes) t out u) → Feeds (take taken bytes) t u x y p r
  end-feeds taken t u x y p r is fresh plain next plays line m =
      let front : take taken bytes ≡ before_end bytes ++ 10 ∷ [] = rw (is, e) (cuts.taken_at_end bytes (before_end bytes) rest cut) in
      let done = plays line m in
      let lines = cuts.complete_at_end line (before_end bytes) [] (cuts.before_without bytes) in
      rw front (record {
        out = done.0;
        appends = done.1;
        prints = rw lines (u, done.0, [], done.2, (refl, refl), sym (append-nil done.0));
        next = rw (fresh, plain, cuts.unfinished_at_end line (before_end bytes)) (refl, refl);
        number = rw lines next;
      })

-- ---- comments

-- whether a line is a comment is seen before its line feed
pub same_comment : (line bytes : List ℕ) → is_comment (line ++ before_end bytes) ≡ is_comment (line ++ bytes)
same_comment (b ∷ bs) bytes = refl
same_comment [] [] = refl
same_comment [] (b ∷ bs) = grind arith

-- ---- dropped bytes

-- a line whose bytes were dropped is skipped, or the trace stops there
pub dropped_plays : (A : Type 0) (result : Result A LineFault) (line : List ℕ) (t : Traffic) (x : Option (List ℕ)) → Drops result line
    → PlaysLine result line t t x x
dropped_plays A (Ok a) line t x skipped = ([], Appends-nil x, rw skipped (refl, refl))
dropped_plays A (Err Bad) line t x stuck = (rw (append-nil line) at (stuck []), refl, refl)
dropped_plays A (Err Write) line t x stuck = absurd stuck
dropped_plays A (Err OutOfMemory) line t x counts = (counts, refl, refl)
