-- The events of a trace's lines, one after another.
use Rattle.std.proofs.Common.{◌≡◌, ℕ, Bool, true, false, List, [], ◌∷◌, ◌++◌, map, Option, Some, None, refl, sym, ap, ◌∙◌, append_assoc, append-nil}
use Rattle.gateway.proofs.Prelude.{EventsGoOn, Numbered, number_of, OccurAll, RepliesInOrder, Happening, Bringing, gate_fault, Traffic, GateFault, is_skipped}
use Rattle.gateway.proofs.Prelude.{PrintsLine, printed, printed_all, after_ends, parts, refusal_line, PrintsBy}
use Rattle.gateway.specs.Traced.{line_events, events_on, Said, Answered, Refused, said_text, replies_among, TracesAreEvents, TracesInOrder}

-- ---- what is said

said-append : (a b : List Said) → said_text (a ++ b) ≡ said_text a ++ said_text b
said-append [] b = refl
said-append (Answered r ∷ more) b = rw (said-append more b) (sym (append_assoc (printed r) (said_text more) (said_text b)))
said-append (Refused c fault ∷ more) b = rw (said-append more b) (sym (append_assoc (refusal_line c fault) (said_text more) (said_text b)))

replies-append : (a b : List Said) → replies_among (a ++ b) ≡ replies_among a ++ replies_among b
replies-append [] b = refl
replies-append (Answered r ∷ more) b = ap (λ l. r ∷ l) (replies-append more b)
replies-append (Refused c fault ∷ more) b = replies-append more b

all_said : (rs : List Numbered) → said_text (map Answered rs) ≡ printed_all rs
all_said [] = refl
all_said (r ∷ rs) = ap (λ l. printed r ++ l) (all_said rs)

all_replies : (rs : List Numbered) → replies_among (map Answered rs) ≡ rs
all_replies [] = refl
all_replies (r ∷ rs) = ap (λ l. r ∷ l) (all_replies rs)

-- ---- events

-- Where an event is refused, so is each of its parts.
refused-more : (t : Traffic) (c : ℕ) (fault : GateFault) (more : List (List ℕ)) → ((bytes : List ℕ) → gate_fault t.lines (Bringing c bytes) ≡ Some fault)
    → OccurAll t (map (Bringing c) more) [] t
refused-more t c fault [] is = (refl, refl)
refused-more t c fault (bytes ∷ more) is = (t, [], [], rw (is bytes) (refl, refl), refused-more t c fault more is, refl)

refused-parts : (t : Traffic) (e : Happening) (fault : GateFault) → gate_fault t.lines e ≡ Some fault → OccurAll t (parts e) [] t
refused-parts t (Bringing c bytes) fault is = (t, [], [], rw is (refl, refl), refused-more t c fault (after_ends bytes) (λ more. is), refl)
refused-parts t e fault is = (t, [], [], rw is (refl, refl), (refl, refl), refl)

-- ---- lines

-- what lines say, and what their events do
abbrev Says : Traffic → List Happening → List ℕ → Traffic → Type 0
Says t es out u = (said : List Said) × (out ≡ said_text said) × OccurAll t es (replies_among said) u

says_event : (t u : Traffic) (e : Happening) (out : List ℕ) (f : Option GateFault) → gate_fault t.lines e ≡ f → PrintsBy f t e out u → Says t (parts e) out u
says_event t u e out (Some fault) is p = (Refused (number_of e) fault ∷ [], p.0 ∙ sym (append-nil _), rw p.1 (refused-parts t e fault is))
says_event t u e out None is p = (map Answered p.0, p.2 ∙ sym (all_said p.0), rw (all_replies p.0) p.1)

says_line : (t u : Traffic) (b : Bool) (line out : List ℕ) → PrintsLine b line t out u → Says t (line_events b line) out u
says_line t u true line out p = ([], p.0, (refl, p.1))
says_line t u false line out p = rw p.1 (says_event t u p.0 out (gate_fault t.lines p.0) refl p.2)

pub traces_are_events : EventsGoOn → TracesAreEvents
traces_are_events events t u [] out p = ([], p.0, (refl, p.1))
traces_are_events events t u (line ∷ lines) out p =
    let here = says_line t p.0 (is_skipped line) line p.1 p.3 in
    let later = traces_are_events events p.0 u lines p.2 p.4 in (
      here.0 ++ later.0,
      p.5 ∙ ap (λ l. l ++ p.2) here.1 ∙ ap (λ l. said_text here.0 ++ l) later.1 ∙ sym (said-append here.0 later.0),
      rw (replies-append here.0 later.0)
          (events.occur-append t p.0 u (line_events (is_skipped line) line) (events_on lines) (replies_among here.0) (replies_among later.0) here.2 later.2),
    )

pub law_traces_in_order : EventsGoOn → RepliesInOrder → TracesInOrder
law_traces_in_order events law_replies_in_order t u w lines out s p =
    let all = traces_are_events events t u lines out p in
    let served = law_replies_in_order t u w (events_on lines) (replies_among all.0) s all.2 in (all.0, all.1, served.0, served.1)
