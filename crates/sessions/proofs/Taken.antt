-- The lines that come from a client are those that were answered and those still to be taken.
use Rattle.std.proofs.{lemmas.Bool.and_parts, Common.append_assoc}
use Rattle.sessions.proofs.Prelude.{EventsGoOn, ◌≡◌, ℕ, ◌<◌, ◌==◌, Bool, true, false, List, [], ◌∷◌, ◌++◌, length, Option, None, Some, if◌then◌else◌, slice_set}
use Rattle.sessions.proofs.Prelude.{refl, sym, ap, ◌∙◌, subst, arith, append-nil, eqb-true, complete, Happening, Opening, Bringing, Closing, gate_fault}
use Rattle.sessions.proofs.Prelude.{Numbered, number_of, has_end, BegunLines, begun_on, begun_after, lines_of, begun_after_all, StandFor, own, LinesCut}
use Rattle.sessions.proofs.Prelude.{RepliesInOrder, Client, Hall, client_at, Act, Joins, Sends, Asks, Gets, Leaves, Acts, ActAll, came_by, came, stays_by}
use Rattle.sessions.proofs.{Beside.Takes, Beside.takes_none, Beside.takes_beside, Beside.takes_own, Prelude.stays, Prelude.LinesAreTaken, Prelude.number_within}
use Rattle.sessions.proofs.Reaching.{moves_one, act_events, same_client, not_same, still, placed}

-- ---- one act

module _ (cut : LinesCut) (law : EventsGoOn) (old mid : Hall) (c : ℕ) (before after : Client) (w : BegunLines) (s : StandFor old.traffic w)
    (was : client_at old c ≡ Some before) (is : client_at mid c ≡ Some after) where
  after_is : (x : Client) → client_at mid c ≡ Some x → after ≡ x
  after_is x e = cc

  -- nothing is taken: what came before and now is there
  idle : (bytes : List ℕ) → before.input ++ bytes ≡ after.input → Takes c w w [] (before.input ++ bytes) after.input
  idle bytes same = rw same (takes_none c w w [] after.input refl refl)

  -- the act is another client's
  away : (d : ℕ) (x : Option Client) → (d == c) ≡ false → mid.clients ≡ slice_set old.clients d x → before.input ++ [] ≡ after.input
  away d x other put = append-nil before.input ∙ ap (λ (y : Client). y.input) (sym (after_is before (still old mid c d x before other put was)))

  beside_event : (d : ℕ) (x : Option Client) (e : Happening) → (d == c) ≡ false → number_of e ≡ d → mid.clients ≡ slice_set old.clients d x
      → Takes c w (begun_after_all w (e ∷ [])) (lines_of w (e ∷ [])) (before.input ++ []) after.input
  beside_event d x e other same put =
      rw (away d x other put) (takes_beside law c w e after.input (ap (λ n. n == c) same ∙ other))

  sends : (d : ℕ) (bytes : List ℕ) (es : List Happening) (said : List Numbered) (b : Bool) → (d == c) ≡ b → Acts old (Sends d bytes) es said mid
      → Takes c w (begun_after_all w es) (lines_of w es) (before.input ++ (if b then bytes else [])) after.input
  sends d bytes es said true same h =
      let prior = same_client old c d _ before same h.2.was was in
      let now = after_is _ (placed old mid c d _ before same (ap (λ (x : Hall). x.clients) h.2.is) was) in
      rw h.0 (idle bytes (rw (← prior, now) refl))
  sends d bytes es said false other h = rw h.0 (idle [] (away d _ other (ap (λ (x : Hall). x.clients) h.2.is)))

  gets : (d : ℕ) (bytes : List ℕ) (es : List Happening) (said : List Numbered) (b : Bool) → (d == c) ≡ b → Acts old (Gets d bytes) es said mid
      → Takes c w (begun_after_all w es) (lines_of w es) (before.input ++ []) after.input
  gets d bytes es said true same h =
      let prior = same_client old c d _ before same h.2.was was in
      let now = after_is _ (placed old mid c d _ before same (ap (λ (x : Hall). x.clients) h.2.is) was) in
      rw h.0 (idle [] (rw (← prior, now) (append-nil h.2.input)))
  gets d bytes es said false other h = rw h.0 (idle [] (away d _ other (ap (λ (x : Hall). x.clients) h.2.is)))

  asks : (d : ℕ) (es : List Happening) (said : List Numbered) (b : Bool) → (d == c) ≡ b → Acts old (Asks d) es said mid
      → Takes c w (begun_after_all w es) (lines_of w es) (before.input ++ []) after.input
  asks d es said true same h =
      let prior = same_client old c d _ before same h.4.was was in
      let now = after_is _ (placed old mid c d _ before same h.4.is was) in
      let at_c : d ≡ c = eqb-true d c same in
      let opens : gate_fault w (Bringing c h.0) ≡ None = sym (law.same_fault old.traffic w (Bringing c h.0) s)
      ∙ subst (λ n. gate_fault old.traffic.lines (Bringing n h.0) ≡ None) at_c h.4.is_open in
      let here = number_within old.traffic.lines d h.4.took.begun h.4.took.was in
      let small : c < length w = omega (arith, here, s.count, s.counted, at_c) in
      let own_part = takes_own cut c w h.0 opens small (has_end h.0) h.4.taken refl h.4.took.takes.count in
      rw (h.2, at_c, ← prior, now, append-nil h.0) own_part
  asks d es said false other h = rw h.2 (beside_event d _ (Bringing d h.0) other refl h.4.is)

  taken : (a : Act) (es : List Happening) (said : List Numbered) → Acts old a es said mid → stays_by c a ≡ true
      → Takes c w (begun_after_all w es) (lines_of w es) (before.input ++ came_by c a) after.input
  taken (Joins d) es said h stay = rw h.0 (beside_event d _ (Opening d) (not_same d c stay) refl (ap (λ (x : Hall). x.clients) h.2.is))
  taken (Sends d bytes) es said h stay = sends d bytes es said (d == c) refl h
  taken (Asks d) es said h stay = asks d es said (d == c) refl h
  taken (Gets d bytes) es said h stay = gets d bytes es said (d == c) refl h
  taken (Leaves d) es said h stay = rw h.0 (beside_event d _ (Closing d) (not_same d c stay) refl (ap (λ (x : Hall). x.clients) h.2.is))

-- ---- many acts

lines-append : (w : BegunLines) (xs ys : List Happening) → lines_of w (xs ++ ys) ≡ lines_of w xs ++ lines_of (begun_after_all w xs) ys
lines-append w [] ys = refl
lines-append w (x ∷ xs) ys = simp (lines-append (begun_after w x) xs ys, append_assoc)

begun-append : (w : BegunLines) (xs ys : List Happening) → begun_after_all w (xs ++ ys) ≡ begun_after_all (begun_after_all w xs) ys
begun-append w [] ys = refl
begun-append w (x ∷ xs) ys = begun-append (begun_after w x) xs ys

-- one part of a stream, and then another
takes-trans : (cut : LinesCut) (law : EventsGoOn) (c : ℕ) (w v u : BegunLines) (xs ys : List Numbered) (stream mid more input : List ℕ)
    → Takes c w v xs stream mid → Takes c v u ys (mid ++ more) input → Takes c w u (xs ++ ys) (stream ++ more) input
takes-trans cut law c w v u xs ys stream mid more input p q = record {
  lines =
      rw (cut.complete-append (begun_on w c) stream more, p.lines, p.rest, append_assoc, ← cut.complete-append (begun_on v c) mid more, q.lines)
      (rw (law.own-append c xs ys) (sym (append_assoc (own c xs) (own c ys) (complete (begun_on u c) input))));
  rest = rw (cut.unfinished-append (begun_on w c) stream more, p.rest, ← cut.unfinished-append (begun_on v c) mid more) q.rest;
}

all_taken : LinesCut → EventsGoOn → RepliesInOrder → (old new : Hall) (w : BegunLines) (acts : List Act) (es : List Happening) (replies : List Numbered)
    (c : ℕ) (before after : Client) → StandFor old.traffic w
    → ActAll old acts es replies new → stays c acts ≡ true → client_at old c ≡ Some before → client_at new c ≡ Some after
    → Takes c w (begun_after_all w es) (lines_of w es) (before.input ++ came c acts) after.input
all_taken cut law order old new w [] es replies c before after s h stay was is =
    let same : before ≡ after = (let still = ap (λ (x : Hall). client_at x c) h.2 in cc) in
    rw (h.0, same, append-nil after.input) (takes_none c w w [] after.input refl refl)
all_taken cut law order old new w (a ∷ acts) es replies c before after s h stay was is =
    let stays_on = and_parts (stays_by c a) (stays c acts) stay in
    let one = moves_one old h.0 a h.1 h.3 c before h.5 stays_on.0 was in
    let here = taken cut law old h.0 c before one.after w s was one.is a h.1 h.3 h.5 stays_on.0 in
    let stands = (order old.traffic h.0.traffic w h.1 h.3 s (act_events old h.0 a h.1 h.3 h.5)).1 in
    let later = all_taken cut law order h.0 new (begun_after_all w h.1) acts h.2 h.4 c one.after after stands h.6 stays_on.1 one.is is in
    rw (h.7, lines-append w h.1 h.2, begun-append w h.1 h.2, ← append_assoc before.input (came_by c a) (came c acts))
    (takes-trans cut law c w (begun_after_all w h.1) _ (lines_of w h.1) _ (before.input ++ came_by c a) one.after.input (came c acts) after.input here later)

pub lines_are_taken : LinesCut → EventsGoOn → RepliesInOrder → LinesAreTaken
lines_are_taken cut law order old new w acts es replies c before after s h stay was is =
    let all = all_taken cut law order old new w acts es replies c before after s h stay was is in (all.lines, all.rest)
