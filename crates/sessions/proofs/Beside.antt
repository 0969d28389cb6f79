-- The lines that one act completes, and what is begun after it, on the connection of one client.
use Rattle.std.proofs.{Common.append_assoc, lemmas.List.drop_all}
use Rattle.sessions.proofs.Prelude.{EventsGoOn, ◌≡◌, ℕ, ◌+◌, ◌<◌, ◌==◌, Bool, true, false, List, [], ◌∷◌, ◌++◌, length, drop, None, Some, if◌then◌else◌}
use Rattle.sessions.proofs.Prelude.{slice_set, refl, sym, ap, ◌∙◌, arith, append-nil, get_or-set_same, complete, unfinished, has_end, before_end, Happening}
use Rattle.sessions.proofs.Prelude.{Bringing, at_number, gate_fault, Numbered, number_of, BegunLines, or_empty, begun_on, lines_in, lines_of, begun_after_all}
use Rattle.sessions.proofs.Prelude.{own, LinesCut}

-- ---- what becomes of what is begun and of what is still to be taken

-- The bytes that came before and those of the act are the lines that it completed, and what is left.
pub record Takes (c : ℕ) (w v : BegunLines) (ended : List Numbered) (stream input : List ℕ) : Type 0 where
  pub lines : complete (begun_on w c) stream ≡ own c ended ++ complete (begun_on v c) input
  pub rest : unfinished (begun_on w c) stream ≡ unfinished (begun_on v c) input

pub takes_none : (c : ℕ) (w v : BegunLines) (lines : List Numbered) (stream : List ℕ) → own c lines ≡ [] → at_number v c ≡ at_number w c
    → Takes c w v lines stream stream
takes_none c w v lines stream quiet kept = record {
  lines = rw (quiet, kept) refl;
  rest = rw kept refl;
}

pub takes_beside : (law : EventsGoOn) (c : ℕ) (w : BegunLines) (e : Happening) (stream : List ℕ) → (number_of e == c) ≡ false
    → Takes c w (begun_after_all w (e ∷ [])) (lines_of w (e ∷ [])) stream stream
takes_beside law c w e stream other =
    takes_none c w _ _ stream (ap (own c) (append-nil (lines_in w e)) ∙ law.none_own e c w other) (law.kept e c w other)

-- the client's own bytes are taken
module _ (cut : LinesCut) (c : ℕ) (w : BegunLines) (input : List ℕ) (is_open : gate_fault w (Bringing c input) ≡ None) (small : c < length w) where
  set_here : (x : List ℕ) → begun_on (slice_set w c (Some x)) c ≡ x
  set_here x = ap or_empty (get_or-set_same w c (Some x) None small)

  own_here : (line : List ℕ) → own c ((c, line) ∷ []) ≡ line ∷ []
  own_here line = grind arith

  dropped : (before rest : List ℕ) → drop (length before + 1) (before ++ 10 ∷ rest) ≡ rest
  dropped [] rest = refl
  dropped (x ∷ xs) rest = grind (arith, dropped xs rest)

  unfinished_past : (line before rest : List ℕ) → unfinished line (before ++ 10 ∷ rest) ≡ unfinished [] rest
  unfinished_past line before rest =
      rw (← append_assoc before (10 ∷ []) rest, cut.unfinished-append line (before ++ 10 ∷ []) rest, cut.unfinished_at_end line before)

  pub takes_own : (b : Bool) (taken : ℕ) → has_end input ≡ b → taken ≡ (if b then length (before_end input) + 1 else length input)
      → Takes c w (begun_after_all w (Bringing c input ∷ [])) (lines_of w (Bringing c input ∷ [])) input (drop taken input)
  takes_own true taken e count =
      let ends = cut.cut_at_end input e in
      let left : drop taken input ≡ ends.0 = rw count (ap (drop (length (before_end input) + 1)) ends.1 ∙ dropped (before_end input) ends.0) in
      rw (is_open, e, left) (record {
        lines = rw (set_here [], own_here (begun_on w c ++ before_end input))
            (ap (complete (begun_on w c)) ends.1 ∙ cut.complete_at_end (begun_on w c) (before_end input) ends.0 (cut.before_without input));
        rest = rw (set_here []) (ap (unfinished (begun_on w c)) ends.1 ∙ unfinished_past (begun_on w c) (before_end input) ends.0);
      })
  takes_own false taken e count =
      let left : drop taken input ≡ [] = ap (λ n. drop n input) count ∙ drop_all (length input) input (omega arith) in
      rw (is_open, e, left) (record {
        lines = cut.complete_without (begun_on w c) input e;
        rest = cut.unfinished_without (begun_on w c) input e ∙ sym (set_here (begun_on w c ++ input));
      })
