-- Where the output state changes: at the last byte of an escape alone, which gives no item that ends before it.
use Rattle.std.proofs.lemmas.List.{take_all, take_more, take-append-le, Elements.All-cons, Elements.All-nil}
use Rattle.std.proofs.Common.{get_or, subst, ◌≡◌, ◌≢◌, refl, sym, ap, ◌∙◌, ℕ, zero, suc, ◌+◌, ◌-◌, ◌*◌, ◌<◌, ◌≤◌, ◌==◌, Bool, true, false, List, [], ◌∷◌, ◌++◌}
use Rattle.std.proofs.Common.{length, take, length-append, if◌then◌else◌, Option, Some, None, arith, rules, lit≤, All, ◌⊎◌, inl, inr}
use Rattle.std.proofs.Math.Seq.{take-append_seam, take-length}
use Rattle.decoder_core.specs.declared.{item.Ended.Ended, item.Item.TheVariants.Error, handler.Answer.Answer}
use Rattle.decoder_core.specs.declared.handler.Answer.TheVariants.{Nothing, Gives, Finished}
use Rattle.decoder_core.specs.{ByCases.by_if, Counts.cost, Forms.gives, Forms.holds, Holding.falls_of, Holding.counts_at}
use Rattle.decoder_core.specs.Queue.{Turn, Table, Fed, Falls, feed, fed_after, further, queue_after, turn_at, reported, run}
use Rattle.iso2022jp.specs.{declared.output.OutputState.OutputState, declared.state.DecoderState.DecoderState, Iso2022Jp.is_pair_byte}
use Rattle.iso2022jp.specs.declared.output.OutputState.TheVariants.{Ascii, Roman, Katakana, Jis0208}
use Rattle.iso2022jp.specs.declared.state.DecoderState.TheVariants.{Ready, Trail, EscapeStart, Escape}
use Rattle.iso2022jp.specs.Iso2022Jp.{Iso2022Jp, iso_2022_jp, iso_2022_jp_start, returning, switched, unflagged, ready_byte, escaped, escape_to, state_byte}
use Rattle.iso2022jp.specs.Iso2022JpLaws.{state_bytes, iso_2022_jp_holding, iso_2022_jp_bytes}

-- how many bytes of an escape have been read
abbrev pub begun : DecoderState → ℕ
begun (Ready output) = 0
begun (Trail lead) = 0
begun EscapeStart = 1
begun (Escape lead) = 2

-- a turn after which an escape can't be read to its end by the bytes left, `left` of them behind the byte read
abbrev Keeps : OutputState → ℕ → Turn Iso2022Jp → Type 0
Keeps output left t = (t.state.output ≡ output) × (begun t.state.state + (length t.back + left) ≤ 2) × (length t.back + left ≤ 1) × (t.answer ≢ Finished)

ready_keeps : (s : Iso2022Jp) (output : OutputState) (b left : ℕ) → begun s.state ≡ 0 → left ≤ 1 → Keeps s.output left (ready_byte s output b)
ready_keeps s Ascii b left e few = (refl, omega (arith, e), omega arith, λ n. cc)
ready_keeps s Roman b left e few = (refl, omega (arith, e), omega arith, λ n. cc)
ready_keeps s Katakana b left e few = (refl, omega (arith, e), omega arith, λ n. cc)
ready_keeps s Jis0208 b left e few = by_if (Keeps s.output left) (is_pair_byte b) (refl, omega arith, omega arith, λ n. cc)
    (refl, omega (arith, e), omega arith, λ n. cc)

turn_keeps : (jis0208 : ℕ → Option ℕ) (s : Iso2022Jp) (state : DecoderState) (b left : ℕ) → begun s.state ≡ begun state → begun state + (1 + left) ≤ 2
    → Keeps s.output left (state_byte jis0208 s state b)
turn_keeps jis0208 s (Ready output) b left e few =
    by_if (Keeps s.output left) (b == 0x1B) (refl, omega arith, omega arith, λ n. cc) (ready_keeps (unflagged s) output b left e (omega arith))
turn_keeps jis0208 s (Trail lead) b left e few =
    by_if (Keeps s.output left) (b == 0x1B) (refl, omega arith, omega arith, λ n. cc) (refl, omega arith, omega arith, λ n. cc)
turn_keeps jis0208 s EscapeStart b left e few = Prim.search (rules, by_if)
turn_keeps jis0208 s (Escape lead) b left e few = absurd (omega arith)

-- what such turns do together
abbrev Steady : OutputState → Fed Iso2022Jp → Type 0
Steady output f = (f.state.output ≡ output) × All (λ (e : Ended). e.back ≤ 1) f.items

steady-after : (a : Answer) (left : ℕ) (next : Iso2022Jp) (output : OutputState) (f : Fed Iso2022Jp) → a ≢ Finished → left ≤ 1
    → Steady output f → Steady output (fed_after a left next f)
steady-after Nothing left next output f goes few h = h
steady-after (Gives i) left next output f goes few h = (h.0, All-cons (λ (e : Ended). e.back ≤ 1) (record { item = i; back = left }) f.items few h.1)
steady-after Finished left next output f goes few h = absurd (goes refl)

-- what a byte does. An item ends before it only if the output state stays, and two bytes before it only inside an escape. The state stays
-- if two bytes of an escape have been read
abbrev pub EndsBefore : Iso2022Jp → OutputState → ℕ → Type 0
EndsBefore s output back = (back ≡ 0) ⊎ ((output ≡ s.output) × ((back ≡ 1) ⊎ ((back ≡ 2) × (begun s.state ≡ 2))))

abbrev pub ItemEnds : Iso2022Jp → OutputState → Ended → Type 0
ItemEnds s output e = EndsBefore s output e.back

abbrev pub Step : Iso2022Jp → Fed Iso2022Jp → Type 0
Step s f = All (ItemEnds s f.state.output) f.items × (begun f.state.state ≡ 2 → f.state.output ≡ s.output)

few : (n : ℕ) → n ≤ 1 → (n ≡ 0) ⊎ (n ≡ 1)
few n h = Prim.grind arith

ends-few : (s : Iso2022Jp) (output : OutputState) (back : ℕ) → output ≡ s.output → back ≤ 1 → EndsBefore s output back
ends-few s output back same h = elim (few back h) [ inl none ↦ inl none | inr one ↦ inr (same, inl one) ]

-- outside the second state of an escape no byte before the last was read of one
by_state : (state : DecoderState) → ((begun state ≤ 1) × (state_bytes state ≤ 1)) ⊎ ((lead : ℕ) × (state ≡ Escape lead))
by_state (Ready output) = inl (lit≤ tt, lit≤ tt)
by_state (Trail lead) = inl (lit≤ tt, lit≤ tt)
by_state EscapeStart = inl (lit≤ tt, lit≤ tt)
by_state (Escape lead) = inr (lead, refl)

by_held : (state : DecoderState) (back : ℕ) → back + 1 ≤ state_bytes state → (back ≡ 0) ⊎ ((back ≡ 1) × (begun state ≡ 2))
by_held state back fit = elim (by_state state) [
  | inl held ↦ inl (omega (arith, held))
  | inr (lead, e) ↦ let f : back + 1 ≤ 2 = rw e at fit in elim (few back (omega arith)) [ inl none ↦ inl none | inr one ↦ inr (one, rw e refl) ]
]

-- the laws of one table's runs, turn by turn
pub record TurnByTurn (table : Table Iso2022Jp) : Type 0 where
  pub turn : (s : Iso2022Jp) (q : List ℕ) → run table s q ≡ reported (turn_at table s q).answer (length (queue_after table s q))
      (run table (turn_at table s q).state (queue_after table s q))
  pub feed_empty : (s : Iso2022Jp) → feed table s [] ≡ record { state = s; items = [] }
  pub feed_turn : (s : Iso2022Jp) (b : ℕ) (q : List ℕ)
      → feed table s (b ∷ q) ≡ fed_after (table s (Some b)).answer (length ((table s (Some b)).back ++ q)) (table s (Some b)).state
      (feed table (table s (Some b)).state ((table s (Some b)).back ++ q))
  pub feed_parts : (s : Iso2022Jp) (p q : List ℕ)
      → feed table s (p ++ q) ≡ record {
        state = (feed table (feed table s p).state q).state;
        items = further (length q) (feed table s p).items ++ (feed table (feed table s p).state q).items;
      }

module _ (jis0208 : ℕ → Option ℕ) (laws : TurnByTurn (iso_2022_jp jis0208)) where
  falls : Falls (iso_2022_jp jis0208)
  falls = falls_of (iso_2022_jp jis0208) (iso_2022_jp_holding jis0208)

  steady-within : (n : ℕ) (s : Iso2022Jp) (q : List ℕ) → 8 * length q + falls.held s < n → begun s.state + length q ≤ 2
      → Steady s.output (feed (iso_2022_jp jis0208) s q)
  steady-within zero s q less fit = absurd (omega arith)
  steady-within (suc n) s [] less fit = rw (laws.feed_empty s) (refl, All-nil (λ (e : Ended). e.back ≤ 1))
  steady-within (suc n) s (b ∷ q) less fit =
      let t = iso_2022_jp jis0208 s (Some b) in
      let k = turn_keeps jis0208 s s.state b (length q) refl (omega arith) in
      let size = length-append t.back q in
      let fall = falls.falls s (b ∷ q) k.3 in
      let rest = steady-within n t.state (t.back ++ q) (omega arith) (omega arith) in
      rw (laws.feed_turn s b q) (steady-after t.answer (length (t.back ++ q)) t.state s.output _ k.3 (omega arith) (rw k.0 at rest))

  steady : (s : Iso2022Jp) (q : List ℕ) → begun s.state + length q ≤ 2 → Steady s.output (feed (iso_2022_jp jis0208) s q)
  steady s q = steady-within (suc (8 * length q + falls.held s)) s q (omega arith)

  -- the last byte of what may be an escape
  abbrev fed_by : Turn Iso2022Jp → Fed Iso2022Jp
  fed_by t = fed_after t.answer (length (t.back ++ [])) t.state (feed (iso_2022_jp jis0208) t.state (t.back ++ []))

  behind_escape : (s : Iso2022Jp) (output : OutputState) (flag : Bool) → begun s.state ≡ 2
      → Step s (fed_by (if flag then gives (switched output) Error [] else holds (switched output)))
  behind_escape s output true e =
      subst (λ (f : Fed Iso2022Jp). Step s (fed_after (Gives Error) 0 (switched output) f)) (sym (laws.feed_empty (switched output)))
      (All-cons (ItemEnds s output) (record { item = Error; back = 0 }) [] (inl refl) (All-nil (ItemEnds s output)), λ f. absurd (omega (arith, f)))
  behind_escape s output false e =
      subst (λ (f : Fed Iso2022Jp). Step s (fed_after Nothing 0 (switched output) f)) (sym (laws.feed_empty (switched output)))
      (All-nil (ItemEnds s output), λ f. absurd (omega (arith, f)))

  escape_step : (s : Iso2022Jp) (to : Option OutputState) (lead b : ℕ) → begun s.state ≡ 2 → Step s (fed_by (escaped s to (lead ∷ b ∷ [])))
  escape_step s (Some output) lead b e = behind_escape s output s.flag e
  escape_step s None lead b e =
      let h = steady (returning s) (lead ∷ b ∷ []) (lit≤ tt) in
      let f = feed (iso_2022_jp jis0208) (returning s) (lead ∷ b ∷ []) in (
        All-cons (ItemEnds s f.state.output) (record { item = Error; back = 2 }) f.items (inr (h.0, inr (refl, e)))
            (λ k d lt. ends-few s f.state.output _ h.0 (h.1 k d lt)),
        λ _. h.0,
      )

  pub step : (s : Iso2022Jp) (b : ℕ) → Step s (feed (iso_2022_jp jis0208) s (b ∷ []))
  step s b = elim (by_state s.state) [
    | inl held ↦
        let h = steady s (b ∷ []) (omega (arith, held)) in
        let f = feed (iso_2022_jp jis0208) s (b ∷ []) in
        (λ k d lt. ends-few s f.state.output _ h.0 (h.1 k d lt), λ _. h.0)
    | inr (lead, e) ↦
        let turn : iso_2022_jp jis0208 s (Some b) ≡ escaped s (escape_to lead b) (lead ∷ b ∷ []) = rw e in
        rw (laws.feed_turn s b [], turn) (escape_step s (escape_to lead b) lead b (rw e refl))
  ]

  -- the state after the first bytes
  abbrev at : List ℕ → Iso2022Jp
  at p = (feed (iso_2022_jp jis0208) iso_2022_jp_start p).state

  at-byte : (p : List ℕ) (b : ℕ) → at (p ++ b ∷ []) ≡ (feed (iso_2022_jp jis0208) (at p) (b ∷ [])).state
  at-byte p b = ap (λ (f : Fed Iso2022Jp). f.state) (laws.feed_parts iso_2022_jp_start p (b ∷ []))

  -- where two bytes of an escape have been read, the second didn't change the output state
  inside_escape : (p : List ℕ) (n : ℕ) → n ≡ length p - 1 → begun (at p).state ≡ 2 → (at (take n p)).output ≡ (at p).output
  inside_escape [] n size e = absurd (omega (arith, e, ap (λ (f : Fed Iso2022Jp). begun f.state.state) (laws.feed_empty iso_2022_jp_start)))
  inside_escape (c ∷ q) n size e =
      let p = c ∷ q in
      let front = take n p in
      let last = get_or p n 0 in
      let is : p ≡ front ++ last ∷ [] = sym (take_all (n + 1) p (omega (arith, size))) ∙ take_more p n 0 (omega (arith, size)) in
      let joined : at p ≡ (feed (iso_2022_jp jis0208) (at front) (last ∷ [])).state = ap at is ∙ at-byte front last in
      sym (rw (← joined) at ((step (at front) last).1 (rw joined at e)))

  at_end : (p : List ℕ) (b back : ℕ) → EndsBefore (at p) (at (p ++ b ∷ [])).output back
      → (at (take (length p + 1 - back) (p ++ b ∷ []))).output ≡ (at (p ++ b ∷ [])).output
  at_end p b back (inl none) =
      let whole : length p + 1 - back ≡ length (p ++ b ∷ []) = omega (arith, length-append p (b ∷ [])) in rw (whole, take-length)
  at_end p b back (inr (same, inl one)) =
      let front : length p + 1 - back ≡ length p = omega arith in
      rw (front, take-append_seam p (b ∷ [])) (sym same)
  at_end p b back (inr (same, inr (two, e))) =
      rw (take-append-le (length p + 1 - back) p (b ∷ []) (omega arith)) (inside_escape p (length p + 1 - back) (omega arith) e ∙ sym same)

  pub output_at_byte : (p : List ℕ) (b : ℕ)
      → All (λ (e : Ended). (at (take (length p + 1 - e.back) (p ++ b ∷ []))).output ≡ (at (p ++ b ∷ [])).output)
      (feed (iso_2022_jp jis0208) (at p) (b ∷ [])).items
  output_at_byte p b k d lt = at_end p b _ (rw (at-byte p b) ((step (at p) b).0 k d lt))

  -- a turn that gives an item leaves fewer bytes than there were or were held
  abbrev Leave : ℕ → List Ended → Type 0
  Leave there es = All (λ (e : Ended). e.back + 1 ≤ there) es

  backs-reported : (a : Answer) (left there : ℕ) (es : List Ended) → left + cost a ≤ there → (a ≢ Finished → Leave there es)
      → Leave there (reported a left es)
  backs-reported Nothing left there es fit more = more (λ n. cc)
  backs-reported (Gives i) left there es fit more = All-cons (λ (e : Ended). e.back + 1 ≤ there) (record { item = i; back = left }) es fit
      (more (λ n. cc))
  backs-reported Finished left there es fit more = All-nil (λ (e : Ended). e.back + 1 ≤ there)

  backs-within : (n there : ℕ) (s : Iso2022Jp) (q : List ℕ) → 8 * length q + falls.held s < n → length q + iso_2022_jp_bytes s ≤ there
      → Leave there (run (iso_2022_jp jis0208) s q)
  backs-within zero there s q less fit = absurd (omega arith)
  backs-within (suc n) there s q less fit =
      let t = turn_at (iso_2022_jp jis0208) s q in
      let left = queue_after (iso_2022_jp jis0208) s q in
      let counts = counts_at (iso_2022_jp jis0208) (iso_2022_jp_holding jis0208) s q in
      rw (laws.turn s q) (backs-reported t.answer (length left) there _ (omega arith)
      (λ goes. let fall = falls.falls s q goes in backs-within n there t.state left (omega arith) (omega arith)))

  -- after the end
  at_last : (p : List ℕ) (back : ℕ) → back + 1 ≤ iso_2022_jp_bytes (at p) → (at (take (length p - back) p)).output ≡ (at p).output
  at_last p back fit =
      elim (by_held (at p).state back fit) [
        | inl none ↦
            let whole : length p - back ≡ length p = omega arith in rw (whole, take-length)
        | inr (one, inside) ↦ inside_escape p (length p - back) (omega arith) inside
      ]

  pub output_at_last : (p : List ℕ) → All (λ (e : Ended). (at (take (length p - e.back) p)).output ≡ (at p).output) (run (iso_2022_jp jis0208) (at p) [])
  output_at_last p k d lt = at_last p _ (backs-within (suc (falls.held (at p))) (iso_2022_jp_bytes (at p)) (at p) [] (omega arith) (omega arith) k d lt)

  -- the output state stays except after two bytes of an escape
  pub output_stays : (p : List ℕ) (b : ℕ) → iso_2022_jp_bytes (at p) ≤ 1 → (at (p ++ b ∷ [])).output ≡ (at p).output
  output_stays p b fit = elim (by_state (at p).state) [
    | inl held ↦ ap (λ (s : Iso2022Jp). s.output) (at-byte p b) ∙ (steady (at p) (b ∷ []) (omega (arith, held))).0
    | inr (lead, e) ↦ absurd (omega (arith, ap state_bytes e))
  ]
