-- Playing a record, line by line.
use Rattle.std.proofs.Common.{◌≡◌, ◌≢◌, ℕ, ◌+◌, ◌<◌, Bool, true, false, List, [], ◌∷◌, ◌++◌, length, take, Option, None, Some, Ok, Err, if◌then◌else◌}
use Rattle.std.proofs.Common.{decimal, refl, sym, ap, ◌∙◌, append_assoc, append-nil, arith, length-append, length-take-le}
use Rattle.std.proofs.{Math.ListN.get_or-append, lemmas.List.get_or-append-add}
use Rattle.std.specs.Io.KnownBytes.{Appends, Consumes, IsAtEnd}
use Rattle.memchr.specs.Find.{OccursAt, FindsNeedle}
use Rattle.line_protocol.specs.Replies.{memory_text}
use Rattle.connections.specs.{CitedLaws.LinesCut, Traffic.Traffic, Lines.complete, Lines.unfinished, Lines.has_end, Lines.before_end}
use Rattle.connections.specs.Clients.{Numbered, OccurAll}
use Rattle.gateway.specs.Trace.{is_skipped, IsBad, printed, refusal_line, text_lines, PrintsLine, PlaysLines}
use Rattle.gateway.specs.Traced.{line_events, events_on, Said, Answered, Refused, said_text, replies_among, TracesAreEvents}
use Rattle.records.specs.{Records.NoneRanOut, Playing.Place, Playing.PlaysLine, Playing.PlaysEach}
use Rattle.records.specs.{Playing.PlaysOn, Playing.PlayStops, Playing.PlaysGoOn, Playing.StopsGoOn, declared.player.PlayFault.PlayFault}
use Rattle.records.{specs.declared.player.PlayFault.TheVariants.BadLine, specs.declared.player.PlayFault.TheVariants.OutOfMemory, proofs.Lines.no_end_append}

-- ---- what is known of memory

whole_read : (x y : Option (List ℕ)) (line read : List ℕ) → x ≡ Some line → Consumes x y read → IsAtEnd y → read ≡ line
whole_read None y line read e c end = cc
whole_read (Some xs) None line read e c end = absurd c
whole_read (Some xs) (Some ys) line read e c end = cc (append-nil read)

whole_written : (x y : Option (List ℕ)) (bytes out : List ℕ) → x ≡ Some [] → y ≡ Some bytes → Appends x y out → bytes ≡ out
whole_written None y bytes out e f a = cc
whole_written (Some xs) None bytes out e f a = absurd a
whole_written (Some xs) (Some ys) bytes out e f a = cc

-- ---- a reply that reports that memory ran out stands in what is printed

stands : (a n b hay : List ℕ) → hay ≡ a ++ (n ++ b) → OccursAt hay n (length a)
stands a n b hay e = rw e (record {
  fits = omega (arith, length-append a (n ++ b), length-append n b);
  reads = λ j small. get_or-append-add a (n ++ b) j 0 ∙ get_or-append n b 0 j small;
})

-- nothing of that text stands in these bytes
abbrev Lacks : List ℕ → List ℕ → Type 0
Lacks hay n = (a b : List ℕ) → hay ≢ a ++ (n ++ b)

lacks : (hay n : List ℕ) → FindsNeedle hay n 0 None → Lacks hay n
lacks hay n none a b e = none (length a) (omega arith) (omega (arith, length-append a (n ++ b), ap length e)) (stands a n b hay e)

none_said : (said : List Said) (front hay : List ℕ) → hay ≡ front ++ said_text said → Lacks hay memory_text → NoneRanOut (replies_among said)
none_said [] front hay e l = tt
none_said (Answered r ∷ more) front hay e l =
    let number : List ℕ = decimal r.0 in
    let rest : List ℕ = said_text more in
    let parts : front ++ (printed r ++ rest) ≡ (front ++ (number ++ 32 ∷ [])) ++ (r.1 ++ rest) = simp append_assoc in (
      λ is. l (front ++ (number ++ 32 ∷ [])) rest (e ∙ parts ∙ ap (λ m. (front ++ (number ++ 32 ∷ [])) ++ (m ++ rest)) is),
      none_said more (front ++ printed r) hay (e ∙ sym (append_assoc front (printed r) (said_text more))) l,
    )
none_said (Refused c fault ∷ more) front hay e l =
    none_said more (front ++ refusal_line c fault) hay (e ∙ sym (append_assoc front (refusal_line c fault) (said_text more))) l

-- ---- one line

one_line : LinesCut → (line : List ℕ) → has_end line ≡ false → text_lines [] line ≡ line ∷ []
one_line cuts line e = rw (cuts.complete_without [] line e, cuts.unfinished_without [] line e) refl

not_bad : (t u : Traffic) (line out : List ℕ) (b : Bool) → is_skipped line ≡ b → PrintsLine b line t out u → IsBad line → ⊥
not_bad t u line out true e p bad = cc
not_bad t u line out false e p bad = cc

pub line_played : LinesCut → TracesAreEvents → (t u : Traffic) (line read bytes : List ℕ) (left rest before after : Option (List ℕ)) → has_end line ≡ false
    → left ≡ Some line → Consumes left rest read → IsAtEnd rest → before ≡ Some [] → after ≡ Some bytes → PlaysLines (text_lines [] read) t u before after
    → FindsNeedle bytes memory_text 0 None
    → (replies : List Numbered) × OccurAll t (line_events (is_skipped line) line) replies u × NoneRanOut replies × (IsBad line → ⊥)
line_played cuts events t u line read bytes left rest before after plain known consumes end empty written plays none =
    let all : read ≡ line = whole_read left rest line read known consumes end in
    let lines : text_lines [] read ≡ line ∷ [] = ap (text_lines []) all ∙ one_line cuts line plain in
    let out : bytes ≡ plays.out = whole_written before after bytes plays.out empty written plays.appends in
    let said = events t u (text_lines [] read) plays.out plays.prints in
    let es : events_on (text_lines [] read) ≡ line_events (is_skipped line) line = ap events_on lines ∙ append-nil (line_events (is_skipped line) line) in
    let prints = rw lines at plays.prints in (
      replies_among said.0,
      rw es at said.2,
      none_said said.0 [] bytes (out ∙ said.1) (lacks bytes memory_text none),
      not_bad t prints.0 line prints.1 (is_skipped line) refl prints.3,
    )

-- ---- parts

pub lines-append : (a b c : Option (List ℕ)) (t u v : Traffic) (xs ys : List (List ℕ)) → PlaysEach a xs t u b → PlaysEach b ys u v c
    → PlaysEach a (xs ++ ys) t v c
lines-append a b c t u v [] ys p q = rw (p.1, p.0) at q
lines-append a b c t u v (x ∷ xs) ys p q = (p.0, p.1, p.2, lines-append p.1 b c p.0 u v xs ys p.3 q)

in_parts : LinesCut → (p q : Place) (a b : List ℕ) → q.line ≡ unfinished p.line a → complete p.line (a ++ b) ≡ complete p.line a ++ complete q.line b
in_parts cuts p q a b e = cuts.complete-append p.line a b ∙ ap (λ l. complete p.line a ++ complete l b) (sym e)

pub plays_go_on : LinesCut → PlaysGoOn
plays_go_on cuts t u v p q r a b x y = record {
  plays = rw (in_parts cuts p q a b x.begun) (lines-append p.head q.head r.head t u v (complete p.line a) (complete q.line b) x.plays y.plays);
  begun = y.begun ∙ ap (λ l. unfinished l b) x.begun ∙ sym (cuts.unfinished-append p.line a b);
  count = omega (arith, length-append a b, x.count, y.count);
}

pub stops_go_on : LinesCut → StopsGoOn
stops_go_on cuts t u p q a b BadLine x s = (
  complete p.line a ++ s.0,
  s.1,
  s.2,
  in_parts cuts p q a b x.begun ∙ ap (λ l. complete p.line a ++ l) s.3 ∙ sym (append_assoc (complete p.line a) s.0 (s.1 ∷ s.2)),
  s.4,
  s.5,
  lines-append p.head q.head s.5 t u s.4 (complete p.line a) s.0 x.plays s.6,
  s.7,
)
stops_go_on cuts t u p q a b OutOfMemory x s = tt

-- ---- bytes up to a line feed

pub no_end_either : (b : Bool) (xs ys : List ℕ) → has_end xs ≡ false → has_end ys ≡ false → has_end (if b then xs ++ ys else xs) ≡ false
no_end_either true xs ys p q = no_end_append xs ys p q
no_end_either false xs ys p q = p

pub no_end_before : LinesCut → (xs ys : List ℕ) (k : ℕ) → has_end xs ≡ false → before_end ys ≡ take k ys → has_end (xs ++ take k ys) ≡ false
no_end_before cuts xs ys k p e = no_end_append xs (take k ys) p (ap has_end (sym e) ∙ cuts.before_without ys)

module _ (cuts : LinesCut) (p : Place) (bytes : List ℕ) (k : ℕ) (small : k < length bytes) (front : before_end bytes ≡ take k bytes)
    (e : has_end bytes ≡ true) where
  cut : (rest : List ℕ) × (bytes ≡ before_end bytes ++ 10 ∷ rest)
  cut = cuts.cut_at_end bytes e

  begins : complete p.line bytes ≡ (p.line ++ take k bytes) ∷ complete [] cut.0
  begins = ap (complete p.line) cut.1 ∙ cuts.complete_at_end p.line (before_end bytes) cut.0 (cuts.before_without bytes)
      ∙ ap (λ l. (p.line ++ l) ∷ complete [] cut.0) front

  pub stops_here : (t u : Traffic) (is : Option (List ℕ)) (fault : PlayFault)
      → PlaysLine {A = Unit {0}} (Err fault) p.head (p.line ++ take k bytes) t u is → PlayStops fault bytes t p
  stops_here t u is BadLine s = ([], p.line ++ take k bytes, complete [] cut.0, begins, t, p.head, (refl, refl), s)
  stops_here t u is OutOfMemory s = tt

  pub played_here : (t u : Traffic) (q : Place) → PlaysLine {A = Unit {0}} (Ok tt) p.head (p.line ++ take k bytes) t u q.head → q.line ≡ []
      → q.whole ≡ p.whole + length (p.line ++ take k bytes) + 1 → PlaysOn (take (k + 1) bytes) t u p q
  played_here t u q plays line whole =
      let long = ap length front in
      let some = length-take-le k bytes (omega (arith, small)) in
      let taken : take (k + 1) bytes ≡ before_end bytes ++ 10 ∷ [] = ap (λ n. take (n + 1) bytes) (sym some ∙ sym long)
      ∙ cuts.taken_at_end bytes (before_end bytes) cut.0 cut.1 in
      let lines : complete p.line (before_end bytes ++ 10 ∷ []) ≡ (p.line ++ take k bytes) ∷ [] =
      cuts.complete_at_end p.line (before_end bytes) [] (cuts.before_without bytes) ∙ ap (λ l. (p.line ++ l) ∷ []) front in
      let both = length-append p.line (take k bytes) in
      let end = length-append (before_end bytes) (10 ∷ []) in
      rw taken (record {
        plays = rw lines (u, q.head, plays, (refl, refl));
        begun = line ∙ sym (cuts.unfinished_at_end p.line (before_end bytes));
        count = omega (arith, ap length line, whole, both, end, long, some);
      })
