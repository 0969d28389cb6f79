-- A record that begins with a head.
use Rattle.std.proofs.Common.{◌≡◌, ℕ, ◌+◌, ◌≤◌, Bool, true, false, List, [], ◌∷◌, ◌++◌, length, take, drop, Option, Some, None, refl, sym, ap, ◌∙◌, subst}
use Rattle.std.proofs.{Common.append_assoc, Common.append-nil, Common.take-append-drop, lemmas.List.take-append-le, Math.Seq.take-append-add}
use Rattle.desk.specs.Desk.{Office}
use Rattle.connections.specs.{CitedLaws.EventsGoOn, CitedLaws.LinesCut, Traffic.Traffic, Traffic.Partial, Lines.complete, Lines.unfinished}
use Rattle.connections.specs.Events.{Happening, Opening, Bringing, Closing, at_number}
use Rattle.connections.specs.Clients.{BegunLines, StandFor, StandsAt, RepliesInOrder}
use Rattle.gateway.specs.Head.{Order, Comment, Part, Adoption, Heading, Obeys, ObeysAll, ObeysBy, heading, may_head, order_on}
use Rattle.gateway.specs.{Headed.with_desk, Trace.is_skipped, Traced.line_events, Traced.events_on}
use Rattle.records.specs.{Lines.words_of, Lines.record_of, Lines.AreRecordable, Playing.PlaysAtHead, Playing.PlaysEvents, Playing.PlaysEach, Records.IsPlayed}
use Rattle.records.specs.Heads.{NoHead, ArePlayed, ArePlayedBehind, IsPlayedWithHead, IsHead, IsHeadedRecord, HeadsComeFirst, HeadlessArePlayed}
use Rattle.records.specs.Heads.{CutHeadsArePlayed}
use Rattle.records.proofs.{Lines.no_end_in_words, Lines.records_are_cut, Played.ran-append, Played.recordable-front, Played.cuts_are_played}

-- ---- lines behind the head

plain-next : EventsGoOn → (t u v : Traffic) (line : List ℕ) (lines : List (List ℕ)) → PlaysEvents line t u → ArePlayed lines u v → ArePlayed (line ∷ lines) t v
plain-next law t u v line lines p q = record {
  replies = p.0 ++ q.replies;
  occur = law.occur-append t u v (line_events (is_skipped line) line) (events_on lines) p.0 q.replies p.1 q.occur;
  none_ran_out = ran-append p.0 q.replies p.2 q.none_ran_out;
  none_bad = (p.3, q.none_bad);
}

plain : EventsGoOn → (lines : List (List ℕ)) (t u : Traffic) (is : Option (List ℕ)) → PlaysEach None lines t u is → ArePlayed lines t u
plain law [] t u is p = record { replies = []; occur = (refl, p.0); none_ran_out = tt; none_bad = tt }
plain law (line ∷ lines) t u is p =
    plain-next law t p.0 u line lines p.2.0 (plain law lines p.0 u is (rw p.2.1 at p.3))

-- ---- a head, and the lines behind it

headed-next : (parts more : List ℕ) (t m u : Traffic) (line : List ℕ) (lines : List (List ℕ))
    → Obeys line (heading t.office parts) (heading m.office more) → m.lines ≡ t.lines → ArePlayedBehind more lines m u
    → ArePlayedBehind parts (line ∷ lines) t u
headed-next parts more t m u line lines obeys same h = record {
  head = line ∷ h.head;
  body = h.body;
  are = ap (λ l. line ∷ l) h.are;
  over = h.over;
  office = h.office;
  parts = h.parts;
  obeyed = (heading m.office more, obeys, h.obeyed);
  events = rw (← same) h.events;
}

behind_none : (parts : List ℕ) (lines : List (List ℕ)) (t u : Traffic) → NoHead lines → ArePlayed lines t u → ArePlayedBehind parts lines t u
behind_none parts lines t u over events =
    record { head = []; body = lines; are = refl; over = over; office = t.office; parts = parts; obeyed = refl; events = events }

headed-by : EventsGoOn → (b : Bool) (line : List ℕ) (lines : List (List ℕ)) (parts : List ℕ) (t m u : Traffic) (here is : Option (List ℕ))
    → may_head line ≡ b → PlaysAtHead b parts line t m here → PlaysEach here lines m u is
    → ((more : List ℕ) → PlaysEach (Some more) lines m u is → ArePlayedBehind more lines m u) → ArePlayedBehind parts (line ∷ lines) t u
headed-by law true line lines parts t m u here is e p q later = headed-next parts p.0 t m u line lines p.1 p.2 (later p.0 (rw p.3 at q))
headed-by law false line lines parts t m u here is e p q later =
    behind_none parts (line ∷ lines) t u e (plain-next law t m u line lines p.0 (plain law lines m u is (rw p.1 at q)))

headed : EventsGoOn → (lines : List (List ℕ)) (parts : List ℕ) (t u : Traffic) (is : Option (List ℕ))
    → PlaysEach (Some parts) lines t u is → ArePlayedBehind parts lines t u
headed law [] parts t u is p = behind_none parts [] t u tt (plain law [] t u None (p.0, refl))
headed law (line ∷ lines) parts t u is p =
    headed-by law (may_head line) line lines parts t p.0 u p.1 is refl p.2 p.3 (λ more q. headed law lines more p.0 u is q)

pub heads_come_first : EventsGoOn → HeadsComeFirst
heads_come_first law t u lines is p = headed law lines [] t u is p

-- ---- lines of a head

abbrev AllHead : List (List ℕ) → Type 0
AllHead [] = Unit {0}
AllHead (line ∷ lines) = (may_head line ≡ true) × AllHead lines

all_head : (lines : List (List ℕ)) (h k : Heading) → ObeysAll h lines k → AllHead lines
all_head [] h k p = tt
all_head (line ∷ lines) h k p = (p.1.0, all_head lines p.0 k p.2)

head_front : (a b : List (List ℕ)) → AllHead (a ++ b) → AllHead a
head_front [] b p = tt
head_front (x ∷ a) b p = (p.0, head_front a b p.1)

-- a head and what is behind it, cut at the same line
same_cut : (a b x y : List (List ℕ)) → AllHead a → NoHead b → AllHead x → NoHead y → a ++ b ≡ x ++ y → (a ≡ x) × (b ≡ y)
same_cut [] b [] y p q r s e = (refl, e)
same_cut [] b (l ∷ x) y p q r s e = let none = rw e at q in cc
same_cut (l ∷ a) b [] y p q r s e = let none = rw (← e) at s in cc
same_cut (l ∷ a) b (m ∷ x) y p q r s e = let rest = same_cut a b x y p.1 q r.1 s (cc) in (cc, rest.1)

none_behind : (a x y : List (List ℕ)) → AllHead a → NoHead y → a ≡ x ++ y → (a ≡ x) × (y ≡ [])
none_behind a x [] p s e = (e ∙ append-nil x, refl)
none_behind a [] (l ∷ y) p s e = let all = rw e at p in cc
none_behind [] (m ∷ x) (l ∷ y) p s e = cc
none_behind (k ∷ a) (m ∷ x) (l ∷ y) p s e = let rest = none_behind a x (l ∷ y) p.1 s (cc) in (cc, rest.1)

-- ---- a head does one thing

office_is : (o p : Office) → o.documents ≡ p.documents → o.indexes ≡ p.indexes → o.labels ≡ p.labels → o.turn ≡ p.turn → o ≡ p
office_is o p documents indexes labels turn = λ i. record { indexes = indexes i; labels = labels i; documents = documents i; turn = turn i }

heading_is : (h k : Heading) → h.office ≡ k.office → h.parts ≡ k.parts → h ≡ k
heading_is h k office parts = λ i. record { office = office i; parts = parts i }

obeys_once : (o : Option Order) (h k m : Heading) → ObeysBy o h k → ObeysBy o h m → k ≡ m
obeys_once None h k m p q = absurd p
obeys_once (Some Comment) h k m p q = p ∙ sym q
obeys_once (Some (Part bytes)) h k m p q = p.1 ∙ sym q.1
obeys_once (Some (Adoption name setting rev)) h k m p q =
    let entry : p.0.step.0 ≡ q.0.step.0 = let is = sym p.0.step.1 ∙ q.0.step.1 in cc in
    let documents : k.office.documents ≡ m.office.documents = rw (p.0.step.2, entry) (sym q.0.step.2) in
    heading_is k m
    (office_is k.office m.office documents (p.0.indexes ∙ sym q.0.indexes) (p.0.labels ∙ sym q.0.labels) (p.0.turn ∙ sym q.0.turn)) (p.1 ∙ sym q.1)

pub all_once : (lines : List (List ℕ)) (h k m : Heading) → ObeysAll h lines k → ObeysAll h lines m → k ≡ m
all_once [] h k m p q = p ∙ sym q
all_once (line ∷ lines) h k m p q =
    all_once lines q.0 k m (rw (obeys_once (order_on line) h p.0 q.0 p.1.1 q.1.1) at p.2) q.2

-- ---- records without a head

words_not : (e : Happening) → may_head (words_of e) ≡ false
words_not (Opening c) = refl
words_not (Bringing c bytes) = refl
words_not (Closing c) = refl

nothing_obeyed : (x y : List (List ℕ)) (h k : Heading) → NoHead (x ++ y) → ObeysAll h x k → (x ≡ []) × (k ≡ h)
nothing_obeyed [] y h k none p = (refl, p)
nothing_obeyed (l ∷ x) y h k none p = cc

pub headless_are_played : HeadlessArePlayed
headless_are_played t u text first p =
    let none = nothing_obeyed p.head p.body _ _ (rw p.are at first) p.obeyed in
    let there : with_desk t p.office ≡ t = ap (λ (h : Heading). with_desk t h.office) none.1 in
    record {
      replies = p.events.replies;
      occur = rw (p.are, none.0) (rw there at p.events.occur);
      none_ran_out = p.events.none_ran_out;
    }

-- lines that are begun stay so where no connection opens or closes
pub stand_there : (t there : Traffic) (w : BegunLines) → there.lines ≡ t.lines → StandFor t w → StandFor there w
stand_there t there w same s = record {
  count = s.count;
  counted = ap length same ∙ s.counted;
  at = λ c. subst (λ (l : List (Option Partial)). StandsAt (at_number l c) (at_number w c)) (sym same) (s.at c);
}

-- ---- a record that is cut

module _ (cuts : LinesCut) where
  first_is_none : (es : List Happening) (torn : List ℕ) → AreRecordable es → complete [] torn ≡ [] → NoHead (complete [] (record_of es ++ torn))
  first_is_none [] torn good none = rw none tt
  first_is_none (e ∷ es) torn good none =
      let lines = cuts.complete_at_end [] (words_of e) (record_of es ++ torn) (no_end_in_words e good.0) in
      rw (append_assoc (words_of e) (10 ∷ record_of es) torn, lines) (words_not e)

  no_head_in_record : (events : List Happening) (n : ℕ) → AreRecordable events → NoHead (complete [] (take n (record_of events)))
  no_head_in_record events n good =
      let cut = records_are_cut cuts events n good in
      let front = recordable-front cut.front cut.rest (rw cut.are at good) in
      rw cut.text (first_is_none cut.front cut.torn front.0 (cuts.complete_without [] cut.torn cut.no_line))

  -- within the head
  within : (t u v : Traffic) (head body : List ℕ) (n : ℕ) → IsHead t head u → n ≤ length head
      → IsPlayedWithHead (complete [] (take n (head ++ body))) t v → IsHead t (take n head) v
  within t u v head body n h small p =
      let two : complete [] head ≡ complete [] (take n head) ++ complete (unfinished [] (take n head)) (drop n head) =
      ap (complete []) (sym (take-append-drop n head)) ∙ cuts.complete-append [] (take n head) (drop n head) in
      let all = head_front _ _ (subst AllHead two (all_head (complete [] head) _ _ h.obeyed)) in
      let none = none_behind _ p.head p.body all p.over (rw (take-append-le n head body small) at p.are) in
      let nothing = rw none.1 at p.events.occur in
      let there : v ≡ with_desk t p.office = nothing.1 in
      record {
        parts = p.parts;
        obeyed = rw (none.0, ap (λ (s : Traffic). s.office) there) p.obeyed;
        lines = ap (λ (s : Traffic). s.lines) there;
      }

  -- behind it
  traffic_there : (t there : Traffic) (o : Office) → o ≡ there.office → there.lines ≡ t.lines → with_desk t o ≡ there
  traffic_there t there o office lines = λ i. record { office = office i; lines = sym lines i }

  behind : (t there u v : Traffic) (head body : List ℕ) (n m : ℕ) → IsHeadedRecord t head body there u → n ≡ length head + m
      → IsPlayedWithHead (complete [] (take n (head ++ body))) t v → IsPlayed there (take m body) v
  behind t there u v head body n m r is p =
      let two : complete [] (take n (head ++ body)) ≡ complete [] head ++ complete [] (take m body) =
      rw (is, take-append-add head body m, cuts.complete-append [] head (take m body), r.whole) in
      let first : NoHead (complete [] (take m body)) = rw r.goes_on.is (no_head_in_record r.goes_on.events m r.goes_on.recordable) in
      let same = same_cut (complete [] head) (complete [] (take m body)) p.head p.body (all_head _ _ _ r.begins.obeyed) first
      (all_head _ _ _ p.obeyed) p.over (sym two ∙ p.are) in
      let office : p.office ≡ there.office = ap (λ (h : Heading). h.office) (all_once _ _ _ _ (rw (← same.0) at p.obeyed) r.begins.obeyed) in
      let from : with_desk t p.office ≡ there = traffic_there t there p.office office r.begins.lines in
      record {
        replies = p.events.replies;
        occur = rw same.1 (rw from at p.events.occur);
        none_ran_out = p.events.none_ran_out;
      }

  pub cut_heads_are_played : RepliesInOrder → CutHeadsArePlayed
  cut_heads_are_played order t there u v w head body n s r p = (
    λ small. within t there v head body n r.begins small p,
    λ m is. cuts_are_played cuts order there u v w body m (stand_there t there w r.begins.lines s) r.goes_on (behind t there u v head body n m r is p),
  )
