-- Bytes of a head, one part after another.
use Rattle.std.proofs.Common.{◌≡◌, ℕ, ◌+◌, ◌<◌, ◌==◌, ◌||◌, Bool, true, false, List, [], ◌∷◌, ◌++◌, length, take, min, None, Some, Result, Ok, Err}
use Rattle.std.proofs.Common.{refl, sym, ap, ◌∙◌, if◌then◌else◌, subst, arith, append_assoc, append-nil, length-append, eqb-true}
use Rattle.std.proofs.{lemmas.Bool.false_from_ne_true}
use Rattle.connections.specs.{CitedLaws.LinesCut, Lines.complete, Lines.unfinished, Lines.has_end, Lines.before_end}
use Rattle.connections.specs.Traffic.{Partial, Received, Dropped, GoesOn, StandsWithin, taken_of}
use Rattle.desk.specs.Desk.{Office}
use Rattle.gateway.specs.{Trace.is_comment, Trace.trace_limit, declared.traces.head.HeadFault.HeadFault, declared.traces.head.HeadFault.TheVariants.Bad}
use Rattle.gateway.specs.{declared.traces.head.HeadFault.TheVariants.OutOfMemory, Orders.begun_of, Orders.bytes_of, Orders.BeginsHead, Orders.BeginsLine}
use Rattle.gateway.specs.{Orders.StuckHead}
use Rattle.gateway.specs.Head.{Order, ObeysOn, ObeysOrderBy, ObeysLine, EndsHead, HeadTakes, Heading, heading, Obeys, ObeysAll, IsBadIn, FinishesHead}
use Rattle.gateway.specs.Head.{HeadPlace, HeadOn, HeadIsBad, AreAlike, HeadLinesGoOn, HeadsGoOn, LinesAreAlike, Whatever}
use Rattle.gateway.specs.Head.{essence, may_head, order_of_words, order_on}
use Rattle.gateway.proofs.Feeding.{first-line, more-lines, ended-lines, same_comment}

pub obeys-append : HeadLinesGoOn
obeys-append h m k [] ys p q = rw p at q
obeys-append h m k (x ∷ xs) ys p q = (p.0, p.1, obeys-append p.0 m k xs ys p.2 q)

-- ---- comments

comment_may : (line : List ℕ) → is_comment line ≡ true → may_head line ≡ true
comment_may [] is = cc
comment_may (b ∷ bs) is = rw is refl

comment_more : (line more : List ℕ) → is_comment line ≡ true → is_comment (line ++ more) ≡ true
comment_more [] more is = cc
comment_more (b ∷ bs) more is = is

comment_obeys : (line : List ℕ) (h : Heading) → is_comment line ≡ true → Obeys line h h
comment_obeys line h is = (comment_may line is, rw is refl)

comment_obeyed : (line : List ℕ) (h k : Heading) → is_comment line ≡ true → Obeys line h k → k ≡ h
comment_obeyed line h k is obeys = let same = rw is at obeys.1 in same

-- ---- what counts of a line that is begun

no_essence : (t : Bool) (b : ℕ) (bs : List ℕ) → (if t then 35 ∷ [] else b ∷ bs) ≡ [] → ⊥
no_essence true b bs e = cc
no_essence false b bs e = cc

-- a line of which nothing counts has no byte
pub none_begun : (line : List ℕ) → essence line ≡ [] → line ≡ []
none_begun [] e = refl
none_begun (b ∷ bs) e = absurd (no_essence (b == 35) b bs e)

-- two comments
module _ (cuts : LinesCut) (x y bytes : List ℕ) (p : is_comment x ≡ true) (q : is_comment y ≡ true) where
  both_end : has_end bytes ≡ true → AreAlike x y bytes
  both_end e =
      let cut = cuts.cut_at_end bytes e in
      let none = cuts.before_without bytes in
      let front = before_end bytes in
      let first : complete x bytes ≡ (x ++ front) ∷ complete [] cut.0 = ap (complete x) cut.1 ∙ cuts.complete_at_end x front cut.0 none in
      let other : complete y bytes ≡ (y ++ front) ∷ complete [] cut.0 = ap (complete y) cut.1 ∙ cuts.complete_at_end y front cut.0 none in
      let whole : bytes ≡ (front ++ 10 ∷ []) ++ cut.0 = cut.1 ∙ sym (append_assoc front (10 ∷ []) cut.0) in
      let rest : (line : List ℕ) → unfinished line bytes ≡ unfinished [] cut.0 = λ line. (ap (unfinished line) whole
      ∙ cuts.unfinished-append line (front ++ 10 ∷ []) cut.0 ∙ ap (λ l. unfinished l cut.0) (cuts.unfinished_at_end line front)) in
      record {
        obeys = λ h k o.
            let all = subst (λ l. ObeysAll h l k) first o in
            let same = comment_obeyed (x ++ front) h all.0 (comment_more x front p) all.1 in
            let rest_of = subst (λ m. ObeysAll m (complete [] cut.0) k) same all.2 in
            subst (λ l. ObeysAll h l k) (sym other) (h, comment_obeys (y ++ front) h (comment_more y front q), rest_of);
        count = ap length first ∙ sym (ap length other);
        begun = ap essence (rest x ∙ sym (rest y));
        ends = λ is. rest y ∙ sym (rest x) ∙ is;
      }

  both_go_on : has_end bytes ≡ false → AreAlike x y bytes
  both_go_on e = record {
    obeys = λ h k o. rw (cuts.complete_without y bytes e) (rw (cuts.complete_without x bytes e) at o);
    count = rw (cuts.complete_without x bytes e, cuts.complete_without y bytes e) refl;
    begun = rw (cuts.unfinished_without x bytes e, cuts.unfinished_without y bytes e, comment_more x bytes p, comment_more y bytes q) refl;
    ends = λ is. (let never = rw (sym (cuts.unfinished_without x bytes e) ∙ is) at (comment_more x bytes p) in cc);
  }

  both_comments : (t : Bool) → has_end bytes ≡ t → AreAlike x y bytes
  both_comments true e = both_end e
  both_comments false e = both_go_on e

alike_by : LinesCut → (t u : Bool) (x y bytes : List ℕ) → is_comment x ≡ t → is_comment y ≡ u → essence x ≡ essence y → AreAlike x y bytes
alike_by cuts true true x y bytes p q e = both_comments cuts x y bytes p q (has_end bytes) refl
alike_by cuts true false x y bytes p q e = let same = rw (p, q) at e in let never = rw (← same) at q in cc
alike_by cuts false true x y bytes p q e = let same = rw (p, q) at e in let never = rw same at p in cc
alike_by cuts false false x y bytes p q e =
    let same : x ≡ y = rw (p, q) at e in rw same (record { obeys = λ h k o. o; count = refl; begun = refl; ends = λ is. is })

pub lines_are_alike : LinesCut → LinesAreAlike
lines_are_alike cuts x y bytes e = alike_by cuts (is_comment x) (is_comment y) x y bytes refl refl e

pub heads_go_on : LinesCut → HeadsGoOn
heads_go_on cuts o p q x y z a b one two =
    let on = lines_are_alike cuts y.line (unfinished x.line a) b one.begun in
    let lines : complete x.line (a ++ b) ≡ complete x.line a ++ complete (unfinished x.line a) b = cuts.complete-append x.line a b in record {
      obeys = rw lines (obeys-append (heading o x.parts) (heading p y.parts) (heading q z.parts) _ _ one.obeys
          (on.obeys (heading p y.parts) (heading q z.parts) two.obeys));
      begun = two.begun ∙ on.begun ∙ ap essence (sym (cuts.unfinished-append x.line a b));
      count = rw lines (omega (arith, one.count, two.count, on.count, length-append (complete x.line a) (complete (unfinished x.line a) b)));
    }

-- ---- bytes without a line feed

pub bad_later : LinesCut → (o : Office) (x : HeadPlace) (bytes : List ℕ) → has_end bytes ≡ false
    → ((more : List ℕ) → IsBadIn ((x.line ++ bytes) ++ more) (heading o x.parts)) → HeadIsBad bytes Whatever o x
bad_later cuts o x bytes e bad = λ later any.
    let found = first-line cuts (x.line ++ bytes) later in ((x.line ++ bytes) ++ found.0, found.1, more-lines cuts x.line bytes later e ∙ found.2, bad found.0)

-- ---- bytes with a line feed

module _ (cuts : LinesCut) (bytes : List ℕ) (e : has_end bytes ≡ true) where
  pub head_end : (o p : Office) (x y : HeadPlace) (taken : ℕ) → taken ≡ taken_of bytes
      → Obeys (x.line ++ before_end bytes) (heading o x.parts) (heading p y.parts) → y.line ≡ [] → y.lines ≡ x.lines + 1 → HeadOn (take taken bytes) o p x y
  head_end o p x y taken count obeys line lines =
      let cut = cuts.cut_at_end bytes e in
      let front : take taken bytes ≡ before_end bytes ++ 10 ∷ [] = rw (count, e) (cuts.taken_at_end bytes (before_end bytes) cut.0 cut.1) in
      let all = cuts.complete_at_end x.line (before_end bytes) [] (cuts.before_without bytes) in
      let done : ObeysAll (heading o x.parts) ((x.line ++ before_end bytes) ∷ []) (heading p y.parts) = (heading p y.parts, obeys, refl) in
      rw front (record {
        obeys = rw all done;
        begun = ap essence (line ∙ sym (cuts.unfinished_at_end x.line (before_end bytes)));
        count = rw all (omega (arith, lines));
      })

  pub bad_here : (o : Office) (x : HeadPlace) → IsBadIn (x.line ++ before_end bytes) (heading o x.parts) → HeadIsBad bytes Whatever o x
  bad_here o x bad = λ later any. (x.line ++ before_end bytes, _, ended-lines cuts bytes e x.line later, bad)

-- ---- the order on a line

pub obeyed_by : {A : Type 0} (r : Result A HeadFault) (line : List ℕ) (order : Order) (h k : Heading) → order_on line ≡ Some order
    → ObeysOrderBy r order h k → ObeysOn r line h k
obeyed_by (Ok x) line order h k is obeys = rw is obeys
obeyed_by (Err Bad) line order h k is obeys = (rw is obeys.0, obeys.1)
obeyed_by (Err OutOfMemory) line order h k is obeys = obeys

-- of a line that may be one of a head
pub obeys_line : {A : Type 0} (r : Result A HeadFault) (line : List ℕ) (h k : Heading) → may_head line ≡ true → ObeysOn r line h k → ObeysLine r line h k
obeys_line (Ok x) line h k may obeys = (may, obeys)
obeys_line (Err Bad) line h k may obeys = ((may, obeys.0), obeys.1)
obeys_line (Err OutOfMemory) line h k may obeys = obeys

-- of one whose bytes were dropped
pub stuck_obeys : (A : Type 0) (f : HeadFault) (line : List ℕ) (h : Heading) → is_comment line ≡ false → StuckHead f line → ObeysOn {A = A} (Err f) line h h
stuck_obeys A Bad line h words stuck =
    let none : order_of_words line ≡ None = ap order_of_words (sym (append-nil line)) ∙ stuck [] in
    let order : order_on line ≡ None = rw words none in (rw order tt, refl)
stuck_obeys A OutOfMemory line h words stuck = refl

-- ---- a line that goes on

not_end : (b : ℕ) → ((b == 35) || ((b == 97) || (b == 112))) ≡ true → (b == 10) ≡ false
not_end b may = false_from_ne_true (b == 10) (λ is. (let never = rw (eqb-true b 10 is) at may in cc))

may_front : (line bytes : List ℕ) → may_head (line ++ bytes) ≡ true → may_head (line ++ before_end bytes) ≡ true
may_front [] [] may = may
may_front [] (b ∷ bs) may = rw (not_end b may) may
may_front (x ∷ line) bytes may = may

may_more : (xs more : List ℕ) → may_head xs ≡ true → may_head (xs ++ more) ≡ true
may_more [] more may = cc
may_more (x ∷ xs) more may = may

words_more : (xs more : List ℕ) → may_head xs ≡ true → is_comment xs ≡ false → is_comment (xs ++ more) ≡ false
words_more [] more may words = cc
words_more (x ∷ xs) more may words = words

-- ---- what is known of the line that is begun

-- it isn't a comment if it isn't one with these bytes behind it
pub no_comment : (c : Bool) (p : Partial) (parts bytes : List ℕ) (lines : ℕ) (s : HeadPlace)
    → record { line = begun_of c p; parts = parts; lines = lines } ≡ s → is_comment (s.line ++ bytes) ≡ false → c ≡ false
no_comment true p parts bytes lines s v words = let never = rw (← v) at words in cc
no_comment false p parts bytes lines s v words = refl

-- nor if a byte of it was received
pub none_in_front : (c : Bool) (p : Partial) (parts bytes : List ℕ) (lines n : ℕ) (s : HeadPlace)
    → record { line = begun_of c p; parts = parts; lines = lines } ≡ s → BeginsHead c p
    → ((line : List ℕ) → StandsWithin trace_limit p line → n ≡ min (length line) (trace_limit + 1)) → 0 < n → is_comment (s.line ++ bytes) ≡ false
none_in_front true p parts bytes lines n s v begins count some =
    let none : n ≡ 0 = count [] (rw begins refl) in absurd (omega (arith, none, some))
none_in_front false (Received []) parts bytes lines n s v begins count some =
    let none : n ≡ 0 = count [] refl in absurd (omega (arith, none, some))
none_in_front false (Received (b ∷ bs)) parts bytes lines n s v begins count some = rw (← v) begins.1
none_in_front false (Dropped m) parts bytes lines n s v begins count some = absurd begins

-- what stands for the line with these bytes behind it
goes_with : (p k : Partial) (bytes : List ℕ) → BeginsLine p → GoesOn trace_limit p bytes k → StandsWithin trace_limit k (bytes_of p ++ bytes)
goes_with (Received xs) k bytes begins goes = goes xs refl
goes_with (Dropped n) k bytes begins goes = absurd begins

-- ---- bytes that were taken, by the answer

module _ (cuts : LinesCut) (p : Partial) (parts : List ℕ) (lines : ℕ) (s : HeadPlace) (bytes : List ℕ) where
  abbrev here : HeadPlace
  here = record { line = bytes_of p; parts = parts; lines = lines }

  module _ (v : here ≡ s) (begins : BeginsLine p) (may : may_head (s.line ++ bytes) ≡ true) (words : is_comment (s.line ++ bytes) ≡ false) where
    may_here : may_head (bytes_of p ++ bytes) ≡ true
    may_here = rw (← v) at may

    words_here : is_comment (bytes_of p ++ bytes) ≡ false
    words_here = rw (← v) at words

    -- dropped
    stuck_more : (f : HeadFault) (o : Office) (y : HeadPlace) → has_end bytes ≡ false → StuckHead f (bytes_of p ++ bytes) → HeadTakes (Err f) bytes o o here y
    stuck_more Bad o y e stuck = (
      bad_later cuts o here bytes e (λ more.
          (may_more (bytes_of p ++ bytes) more may_here, rw (words_more (bytes_of p ++ bytes) more may_here words_here, stuck more) tt)),
      refl,
    )
    stuck_more OutOfMemory o y e stuck = refl

    pub refused_more : (q : Partial) (n : ℕ) (f : HeadFault) (o : Office) (y : HeadPlace) → has_end bytes ≡ false → GoesOn trace_limit p bytes q → q ≡ Dropped n
        → ((line : List ℕ) → StandsWithin trace_limit (Dropped n) line → StuckHead f line) → HeadTakes (Err f) bytes o o s y
    refused_more q n f o y e goes is stuck = rw (← v) (stuck_more f o y e (stuck (bytes_of p ++ bytes) (rw is at (goes_with p q bytes begins goes))))

    module _ (e : has_end bytes ≡ true) (k : Partial) (goes : GoesOn trace_limit p (before_end bytes) k) where
      line_is : StandsWithin trace_limit k (bytes_of p ++ before_end bytes)
      line_is = goes_with p k (before_end bytes) begins goes

      may_line : may_head (bytes_of p ++ before_end bytes) ≡ true
      may_line = may_front (bytes_of p) bytes may_here

      words_line : is_comment (bytes_of p ++ before_end bytes) ≡ false
      words_line = same_comment (bytes_of p) bytes ∙ words_here

      abbrev Obeyed : {A : Type 0} → Result A HeadFault → Heading → Heading → Type 0
      Obeyed r h j = (line : List ℕ) → is_comment line ≡ false → StandsWithin trace_limit k line → ObeysOn r line h j

      -- obeyed
      pub taken_end : (A : Type 0) (a : A) (o u : Office) (q : Partial) (more : List ℕ) (taken next : ℕ)
          → Obeyed (Ok a) (heading o parts) (heading u more) → taken ≡ taken_of bytes → q ≡ Received [] → next ≡ lines + 1
          → HeadOn (take taken bytes) o u s (record { line = bytes_of q; parts = more; lines = next })
      taken_end A a o u q more taken next obeyed count fresh is =
          rw (← v) (head_end cuts bytes e o u here (record { line = bytes_of q; parts = more; lines = next }) taken count
          (may_line, obeyed (bytes_of p ++ before_end bytes) words_line line_is) (ap bytes_of fresh) is)

      -- not obeyed
      not_end_obeyed : (A : Type 0) (f : HeadFault) (o u : Office) (more : List ℕ) (y : HeadPlace)
          → ObeysLine {A = A} (Err f) (bytes_of p ++ before_end bytes) (heading o parts) (heading u more) → HeadTakes (Err f) bytes o u here y
      not_end_obeyed A Bad o u more y obeys = (bad_here cuts bytes e o here obeys.0, obeys.1)
      not_end_obeyed A OutOfMemory o u more y obeys = obeys

      pub refused_end : (A : Type 0) (f : HeadFault) (o u : Office) (more : List ℕ) (y : HeadPlace)
          → Obeyed {A = A} (Err f) (heading o parts) (heading u more) → HeadTakes (Err f) bytes o u s y
      refused_end A f o u more y obeyed =
          rw (← v) (not_end_obeyed A f o u more y (obeys_line {A = A} (Err f) (bytes_of p ++ before_end bytes) (heading o parts) (heading u more) may_line
          (obeyed (bytes_of p ++ before_end bytes) words_line line_is)))

-- ---- the last line

module _ {A : Type 0} (p : Partial) (parts : List ℕ) (lines n : ℕ) (s : HeadPlace)
    (v : record { line = bytes_of p; parts = parts; lines = lines } ≡ s) (begins : BeginsLine p)
    (count : (line : List ℕ) → StandsWithin trace_limit p line → n ≡ min (length line) (trace_limit + 1)) where
  abbrev Obeying : Result A HeadFault → Partial → Heading → Heading → Type 0
  Obeying r k h j = (line : List ℕ) → is_comment line ≡ false → StandsWithin trace_limit k line → ObeysOn r line h j

  last_by : (r : Result A HeadFault) (q k : Partial) (h j : Heading) → BeginsLine q → q ≡ p → ¬ (n ≡ 0)
      → StandsWithin trace_limit k (bytes_of q ++ []) → Obeying r k h j → EndsHead r (bytes_of q) h j
  last_by r (Received []) k h j may is some stands obeys = absurd (some (count [] (rw (← is) refl)))
  last_by r (Received (x ∷ xs)) k h j may is some stands obeys =
      obeys_line r (x ∷ xs) h j may.0 (rw (append-nil (x ∷ xs)) at (obeys ((x ∷ xs) ++ []) may.1 stands))
  last_by r (Dropped m) k h j may is some stands obeys = absurd may

  pub last_line : (r : Result A HeadFault) (k : Partial) (o u : Office) (y : HeadPlace) → ¬ (n ≡ 0) → GoesOn trace_limit p [] k
      → Obeying r k (heading o parts) (heading u y.parts) → FinishesHead r o u s y
  last_line r k o u y some goes obeys =
      rw (← v) (last_by r p k (heading o parts) (heading u y.parts) begins refl some (goes_with p k [] begins goes) obeys)

  none_by : (a : A) (q : Partial) (h : Heading) → BeginsLine q → q ≡ p → n ≡ 0 → EndsHead (Ok a) (bytes_of q) h h
  none_by a (Received []) h may is none = (refl, refl)
  none_by a (Received (x ∷ xs)) h may is none = let some = count (x ∷ xs) (rw (← is) refl) in absurd (grind (arith, some, none))
  none_by a (Dropped m) h may is none = absurd may

  pub no_last_line : (a : A) (o : Office) → n ≡ 0 → FinishesHead (Ok a) o o s s
  no_last_line a o none = rw (← v) (none_by a p (heading o parts) begins refl none)

-- a comment
pub last_comment : {A : Type 0} (a : A) (p : Partial) (parts : List ℕ) (lines : ℕ) (s : HeadPlace) (o : Office)
    → record { line = begun_of true p; parts = parts; lines = lines } ≡ s → FinishesHead (Ok a) o o s s
last_comment a p parts lines s o v = rw (← v) (refl, refl)

-- ---- a comment that is skipped

fresh_here : (c : Bool) (p : Partial) (bytes : List ℕ) → BeginsHead c p → is_comment (begun_of c p ++ bytes) ≡ true → p ≡ Received []
fresh_here true p bytes begins comment = begins
fresh_here false (Received []) bytes begins comment = refl
fresh_here false (Received (b ∷ bs)) bytes begins comment = let never = sym begins.1 ∙ comment in cc
fresh_here false (Dropped n) bytes begins comment = absurd begins

module _ (cuts : LinesCut) (c : Bool) (p : Partial) (parts bytes : List ℕ) (lines : ℕ) (s : HeadPlace) (o : Office)
    (v : record { line = begun_of c p; parts = parts; lines = lines } ≡ s) (comment : is_comment (s.line ++ bytes) ≡ true) where
  abbrev there : HeadPlace
  there = record { line = begun_of c p; parts = parts; lines = lines }

  is_there : is_comment (there.line ++ bytes) ≡ true
  is_there = rw (← v) at comment

  pub skips_end : (n next : ℕ) → BeginsHead c p → has_end bytes ≡ true → n ≡ taken_of bytes → next ≡ lines + 1
      → HeadOn (take n bytes) o o s (record { line = begun_of false p; parts = parts; lines = next })
  skips_end n next begins e count is =
      let line : is_comment (there.line ++ before_end bytes) ≡ true = same_comment there.line bytes ∙ is_there in
      rw (← v) (head_end cuts bytes e o o there (record { line = begun_of false p; parts = parts; lines = next }) n count
      (comment_obeys (there.line ++ before_end bytes) (heading o parts) line) (ap bytes_of (fresh_here c p bytes begins is_there)) is)
