-- Bytes of a trace line, part by part.
use Rattle.std.proofs.Common.{◌≡◌, ℕ, ◌+◌, ◌<◌, nat_lt, Bool, true, false, List, [], ◌∷◌, ◌++◌, length, drop, map, Option, None, Result, Ok, Err, if◌then◌else◌}
use Rattle.std.proofs.Common.{refl, sym, ap, ◌∙◌, append_assoc, append-nil, arith, ◌-◌}
use Rattle.std.proofs.{lemmas.List.drop_all, Math.Seq.drop-append-add}
use Rattle.gateway.proofs.Prelude.{lt-ltb, Appends-trans, Appends-nil, Appends, EventsGoOn, LinesCut, Numbered, sent_to, Occurs, OccurAll, Happening, Bringing}
use Rattle.gateway.proofs.Prelude.{gate_fault, Took, Happens, has_end, before_end, Traffic, printed, printed_all, after_ends, parts, bringings, Plays}
use Rattle.gateway.proofs.Prelude.{PlaysRest, Played, PrintsReply}
use Rattle.connections.specs.Delivery.{IsOpen}

-- ---- what comes after a line feed

after-none : (xs : List ℕ) → has_end xs ≡ false → after_ends xs ≡ []
after-none [] h = refl
after-none (x ∷ xs) h = grind (arith, after-none xs)

-- the events of what comes after a line feed
after-end : (c : ℕ) (more : List ℕ) → map (Bringing c) (after_ends (10 ∷ more)) ≡ bringings c more
after-end c [] = refl
after-end c (m ∷ ms) = let some : nat_lt 0 (length (m ∷ ms)) ≡ true = lt-ltb 0 (length (m ∷ ms)) (omega arith) in rw some refl

after-before : (before more : List ℕ) → has_end before ≡ false → after_ends (before ++ 10 ∷ more) ≡ after_ends (10 ∷ more)
after-before [] more h = refl
after-before (x ∷ before) more h = grind (arith, after-before before more)

rest-after : (cuts : LinesCut) (c : ℕ) (bytes : List ℕ) (taken : ℕ) (t : Bool) → has_end bytes ≡ t
    → taken ≡ (if t then length (before_end bytes) + 1 else length bytes) → map (Bringing c) (after_ends bytes) ≡ bringings c (drop taken bytes)
rest-after cuts c bytes taken true e is =
    let cut = cuts.cut_at_end bytes e in
    let gone : drop taken bytes ≡ cut.0 =
    rw is (ap (drop (length (before_end bytes) + 1)) cut.1 ∙ drop-append-add (before_end bytes) (10 ∷ cut.0) 1) in
    ap (λ b. map (Bringing c) (after_ends b)) cut.1 ∙ rw (after-before (before_end bytes) cut.0 (cuts.before_without bytes), gone) (after-end c cut.0)
rest-after cuts c bytes taken false e is = rw (after-none bytes e, is, drop_all (length bytes) bytes (omega arith))

-- what an event of bytes leaves to play
left_over : (cuts : LinesCut) (t u : Traffic) (c taken : ℕ) (bytes : List ℕ) (reply : Option (List ℕ)) → Took t c bytes taken reply u
    → map (Bringing c) (after_ends bytes) ≡ bringings c (drop taken bytes)
left_over cuts t u c taken bytes reply took = rest-after cuts c bytes taken (has_end bytes) refl took.takes.count

-- ---- one event after others

occur-snoc : EventsGoOn → (t u v : Traffic) (es : List Happening) (e : Happening) (rs here : List Numbered) → OccurAll t es rs u → Occurs u e here v
    → OccurAll t (es ++ e ∷ []) (rs ++ here) v
occur-snoc events t u v es e rs here p q = events.occur-append t u v es (e ∷ []) rs here p (v, here, [], q, (refl, refl), sym (append-nil here))

printed-append : (a b : List Numbered) → printed_all (a ++ b) ≡ printed_all a ++ printed_all b
printed-append [] b = refl
printed-append (r ∷ rs) b = rw (printed-append rs b) (sym (append_assoc (printed r) (printed_all rs) (printed_all b)))

-- an event of bytes on an open connection
occurs_open : (t u : Traffic) (c taken : ℕ) (bytes : List ℕ) (reply : Option (List ℕ)) → IsOpen t c → Took t c bytes taken reply u
    → Occurs t (Bringing c bytes) (sent_to c reply) u
occurs_open t u c taken bytes reply is_open took = rw is_open (taken, reply, took, refl)

cut-on : (c b : ℕ) (bs : List ℕ) (whole done : List Happening) (taken : ℕ) → whole ≡ done ++ bringings c (b ∷ bs)
    → map (Bringing c) (after_ends (b ∷ bs)) ≡ bringings c (drop taken (b ∷ bs))
    → whole ≡ (done ++ Bringing c (b ∷ bs) ∷ []) ++ bringings c (drop taken (b ∷ bs))
cut-on c b bs whole done taken cut left =
    rw (cut, left) (sym (append_assoc done (Bringing c (b ∷ bs) ∷ []) (bringings c (drop taken (b ∷ bs)))))

pub played-on : (cuts : LinesCut) (events : EventsGoOn) (c : ℕ) (bytes rest : List ℕ) (t u v : Traffic) (x y z : Option (List ℕ)) (taken : ℕ)
    (reply : Option (List ℕ)) → Played c bytes rest t u x y → 0 < length rest
    → Took u c rest taken reply v → IsOpen v c → Appends y z (printed_all (sent_to c reply)) → Played c bytes (drop taken rest) t v x z
played-on cuts events c bytes [] t u v x y z taken reply p some took still_open gone = absurd (omega (arith, some))
played-on cuts events c bytes (b ∷ bs) t u v x y z taken reply p some took still_open gone = record {
  done = p.done ++ Bringing c (b ∷ bs) ∷ [];
  replies = p.replies ++ sent_to c reply;
  cut = cut-on c b bs (bringings c bytes) p.done taken p.cut (left_over cuts u v c taken (b ∷ bs) reply took);
  occurs = occur-snoc events t u v p.done (Bringing c (b ∷ bs)) p.replies (sent_to c reply) p.occurs (occurs_open u v c taken (b ∷ bs) reply p.is_open took);
  appends = rw (printed-append p.replies (sent_to c reply)) (Appends-trans x y z (printed_all p.replies) (printed_all (sent_to c reply)) p.appends gone);
  is_open = still_open;
}

pub played-until : (cuts : LinesCut) (events : EventsGoOn) (A E : Type 0) (f : E) (c : ℕ) (bytes rest : List ℕ) (t u v : Traffic) (x y z : Option (List ℕ))
    (taken : ℕ) (reply : Option (List ℕ)) → Played c bytes rest t u x y → 0 < length rest
    → Took u c rest taken reply v → PrintsReply {A = A} {E = E} (Err f) (sent_to c reply) y z → PlaysRest {A = A} {E = E} (Err f) c bytes t v x z
played-until cuts events A E f c bytes [] t u v x y z taken reply p some took gone = absurd (omega (arith, some))
played-until cuts events A E f c bytes (b ∷ bs) t u v x y z taken reply p some took gone =
    let part = gone.2 in (
      p.done ++ Bringing c (b ∷ bs) ∷ [],
      bringings c (drop taken (b ∷ bs)),
      p.replies,
      gone.0,
      part.0,
      part.1,
      cut-on c b bs (bringings c bytes) p.done taken p.cut (left_over cuts u v c taken (b ∷ bs) reply took),
      rw gone.1 at (occur-snoc events t u v p.done (Bringing c (b ∷ bs)) p.replies (sent_to c reply) p.occurs
          (occurs_open u v c taken (b ∷ bs) reply p.is_open took)),
      part.2,
      part.3,
      Appends-trans x y z (printed_all p.replies) part.0 p.appends part.4,
    )

-- ---- an event of bytes that is accepted

-- printing the last of some replies stopped short
stopped-by : (A E : Type 0) (f : E) (e : Happening) (t v : Traffic) (x z : Option (List ℕ)) (done left : List Happening)
    (replies : List Numbered) (last : Numbered) (part unsent : List ℕ)
    → gate_fault t.lines e ≡ None → parts e ≡ done ++ left → OccurAll t done (replies ++ last ∷ []) v → printed last ≡ part ++ unsent
    → 0 < length unsent → Appends x z (printed_all replies ++ part) → Plays {A = A} {E = E} (Err f) e t v x z
stopped-by A E f e t v x z done left replies last part unsent fine cut occurs is some gone =
    (printed_all replies ++ part, gone, rw fine (done, left, replies, last, part, unsent, cut, occurs, is, some, refl))

module _ (cuts : LinesCut) (t u : Traffic) (c taken : ℕ) (bytes : List ℕ) (reply : Option (List ℕ))
    (fine : gate_fault t.lines (Bringing c bytes) ≡ None) (took : Took t c bytes taken reply u) where
  first_occurs : Occurs t (Bringing c bytes) (sent_to c reply) u
  first_occurs = occurs_open t u c taken bytes reply fine took

  over : map (Bringing c) (after_ends bytes) ≡ bringings c (drop taken bytes)
  over = left_over cuts t u c taken bytes reply took

  pub bytes-play : (A E : Type 0) (r : Result A E) (v : Traffic) (x y z : Option (List ℕ)) → Appends x y (printed_all (sent_to c reply))
      → PlaysRest r c (drop taken bytes) u v y z → Plays r (Bringing c bytes) t v x z
  bytes-play A E (Ok a) v x y z gone q = (
    printed_all (sent_to c reply ++ q.0),
    rw (printed-append (sent_to c reply) q.0) (Appends-trans x y z (printed_all (sent_to c reply)) (printed_all q.0) gone q.2),
    rw fine (sent_to c reply ++ q.0, (u, sent_to c reply, q.0, first_occurs, rw over q.1, refl), refl),
  )
  bytes-play A E (Err f) v x y z gone q =
      let sent = sent_to c reply in
      stopped-by A E f (Bringing c bytes) t v x z (Bringing c bytes ∷ q.0) q.1 (sent ++ q.2) q.3 q.4 q.5 fine
      (ap (λ l. Bringing c bytes ∷ l) (over ∙ q.6)) (u, sent, q.2 ++ q.3 ∷ [], first_occurs, q.7, append_assoc sent q.2 (q.3 ∷ [])) q.8 q.9
      (rw (printed-append sent q.2, append_assoc) (Appends-trans x y z (printed_all sent) (printed_all q.2 ++ q.4) gone q.10))

  pub bytes-broken : (A E : Type 0) (f : E) (x y : Option (List ℕ)) → PrintsReply {A = A} {E = E} (Err f) (sent_to c reply) x y
      → Plays {A = A} {E = E} (Err f) (Bringing c bytes) t u x y
  bytes-broken A E f x y gone =
      let part = gone.2 in
      stopped-by A E f (Bringing c bytes) t u x y (Bringing c bytes ∷ []) (map (Bringing c) (after_ends bytes)) [] gone.0 part.0 part.1 fine refl
      (u, sent_to c reply, [], first_occurs, (refl, refl), sym gone.1 ∙ sym (append-nil (sent_to c reply))) part.2 part.3 part.4

-- an open or a close that is accepted
pub alone-play : (A E : Type 0) (a : A) (t u : Traffic) (e : Happening) (taken : ℕ) (reply : Option (List ℕ)) (x : Option (List ℕ))
    → gate_fault t.lines e ≡ None → Happens t e taken reply u → parts e ≡ e ∷ [] → reply ≡ None → Plays {E = E} (Ok a) e t u x x
alone-play A E a t u e taken reply x fine happens one none =
    ([], Appends-nil x, rw fine ([], rw one (u, [], [], rw fine (taken, reply, happens, rw none refl), (refl, refl), refl), refl))
