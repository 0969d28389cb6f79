-- What an act leaves as it was: the other clients, and how little waits to be taken of each.
use Rattle.std.{proofs.lemmas.List.length-drop, proofs.Common.zero, proofs.Common.suc, proofs.Common.◌==◌, proofs.lemmas.Bool.and_parts, specs.Option.is_some}
use Rattle.devices.specs.declared.reading.TheConstants.{READ_BUFFER}
use Rattle.sessions.{proofs.Prelude.InputIsLittle, proofs.Prelude.number_within, specs.Advances.is_step_of, specs.Advances.are_steps_of, proofs.Reaching.placed}
use Rattle.sessions.proofs.Prelude.{◌≡◌, ◌≢◌, ℕ, ◌<◌, ◌≤◌, true, List, [], ◌∷◌, length, replicate, ◌⊎◌, Option, None, Some, slice_set, sym, ap, ◌∙◌, inl, inr}
use Rattle.sessions.proofs.Prelude.{refl, arith, length-set, get_or-set_other, get_or-set_same, eqb-true, eqb_tells, Happening, connections, at_number, line_at}
use Rattle.sessions.proofs.Prelude.{Numbered, Client, Hall, client_at, fresh_client, Act, Joins, Sends, Asks, Gets, Leaves, Acts, ActAll, HasLittle}

-- ---- other clients

-- client d is as it was, and the line that is begun on its connection
abbrev IsKept : Hall → Hall → ℕ → Type 0
IsKept old new d = (client_at new d ≡ client_at old d) × (line_at new.traffic d ≡ line_at old.traffic d)

kept_one : (old mid : Hall) (a : Act) (es : List Happening) (said : List Numbered) (c d : ℕ) → d ≢ c → is_step_of c a ≡ true
    → Acts old a es said mid → IsKept old mid d
kept_one old mid (Joins n) es said c d ne step h = cc
kept_one old mid (Sends n bytes) es said c d ne step h =
    rw h.2.is (get_or-set_other old.clients n d _ None (λ s. ne (s ∙ eqb-true n c step)), refl)
kept_one old mid (Asks n) es said c d ne step h = (
  ap (λ l. at_number l d) h.4.is ∙ get_or-set_other old.clients n d _ None (λ s. ne (s ∙ eqb-true n c step)),
  ap (λ l. at_number l d) h.4.took.lines ∙ get_or-set_other old.traffic.lines n d _ None (λ s. ne (s ∙ eqb-true n c step)),
)
kept_one old mid (Gets n bytes) es said c d ne step h =
    rw h.2.is (get_or-set_other old.clients n d _ None (λ s. ne (s ∙ eqb-true n c step)), refl)
kept_one old mid (Leaves n) es said c d ne step h = cc

pub others_kept : (old new : Hall) (acts : List Act) (es : List Happening) (replies : List Numbered) (c d : ℕ) → d ≢ c
    → are_steps_of c acts ≡ true → ActAll old acts es replies new → IsKept old new d
others_kept old new [] es replies c d ne steps h = rw h.2 (refl, refl)
others_kept old new (a ∷ acts) es replies c d ne steps h =
    let both = and_parts (is_step_of c a) (are_steps_of c acts) steps in
    let one = kept_one old h.0 a h.1 h.3 c d ne both.0 h.5 in
    let rest = others_kept h.0 new acts h.2 h.4 c d ne both.1 h.6 in
    (rest.0 ∙ one.0, rest.1 ∙ one.1)

-- ---- the client itself

-- what is put where a client was
still_there : (old mid : Hall) (c n : ℕ) (x before : Client) → (n == c) ≡ true → client_at old n ≡ Some before
    → mid.clients ≡ slice_set old.clients n (Some x) → is_some (client_at mid c) ≡ is_some (client_at old c)
still_there old mid c n x before same was put =
    let here = rw (eqb-true n c same) at was in rw (placed old mid c n x before same put here, here)

-- client c is there where it was
there_one : (old mid : Hall) (a : Act) (es : List Happening) (said : List Numbered) (c : ℕ) → is_step_of c a ≡ true
    → Acts old a es said mid → is_some (client_at mid c) ≡ is_some (client_at old c)
there_one old mid (Joins n) es said c step h = cc
there_one old mid (Sends n bytes) es said c step h = still_there old mid c n _ _ step h.2.was (ap (λ (x : Hall). x.clients) h.2.is)
there_one old mid (Asks n) es said c step h = still_there old mid c n _ _ step h.4.was h.4.is
there_one old mid (Gets n bytes) es said c step h = still_there old mid c n _ _ step h.2.was (ap (λ (x : Hall). x.clients) h.2.is)
there_one old mid (Leaves n) es said c step h = cc

pub there : (old new : Hall) (acts : List Act) (es : List Happening) (replies : List Numbered) (c : ℕ) → are_steps_of c acts ≡ true
    → ActAll old acts es replies new → is_some (client_at new c) ≡ is_some (client_at old c)
there old new [] es replies c steps h = ap (λ (x : Hall). is_some (client_at x c)) h.2
there old new (a ∷ acts) es replies c steps h =
    let both = and_parts (is_step_of c a) (are_steps_of c acts) steps in
    there h.0 new acts h.2 h.4 c both.1 h.6 ∙ there_one old h.0 a h.1 h.3 c both.0 h.5

-- ---- what waits to be taken

-- what is at c behind a put at d was there, or was put
put_at : (xs : List (Option Client)) (d c : ℕ) (x : Option Client) (y : Client) → at_number (slice_set xs d x) c ≡ Some y
    → (at_number xs c ≡ Some y) ⊎ (x ≡ Some y)
put_at xs d c x y h = elim (eqb_tells c d) as (λ _. (at_number xs c ≡ Some y) ⊎ (x ≡ Some y)) [
  | inl same ↦
      let small : d < length xs = omega (arith, number_within (slice_set xs d x) c y h, same.1, length-set xs d x) in
      inr (sym (get_or-set_same xs d x None small) ∙ ap (at_number (slice_set xs d x)) (sym same.1) ∙ h)
  | inr other ↦ inl (sym (get_or-set_other xs d c x None other.1) ∙ h)
]

little_put : (old mid : Hall) (d : ℕ) (x : Option Client) → mid.clients ≡ slice_set old.clients d x
    → ((y : Client) → x ≡ Some y → length y.input ≤ READ_BUFFER) → HasLittle old → HasLittle mid
little_put old mid d x put few little c client here =
    elim (put_at old.clients d c x client (sym (ap (λ l. at_number l c) put) ∙ here)) [ inl was ↦ little c client was | inr is ↦ few client is ]

little_of : (x : Client) → length x.input ≤ READ_BUFFER → (y : Client) → Some x ≡ Some y → length y.input ≤ READ_BUFFER
little_of x few y e = let same : x ≡ y = cc in rw (← same) few

little_one : (old mid : Hall) (a : Act) (es : List Happening) (said : List Numbered) → Acts old a es said mid → HasLittle old → HasLittle mid
little_one old mid (Joins c) es said h little =
    little_put old mid c _ (ap (λ (x : Hall). x.clients) h.2.is) (little_of fresh_client (omega arith)) little
little_one old mid (Sends c bytes) es said h little =
    little_put old mid c _ (ap (λ (x : Hall). x.clients) h.2.is) (little_of _ h.2.few) little
little_one old mid (Asks c) es said h little =
    little_put old mid c _ h.4.is (little_of _ (omega (arith, little c _ h.4.was, length-drop h.4.taken h.0))) little
little_one old mid (Gets c bytes) es said h little =
    little_put old mid c _ (ap (λ (x : Hall). x.clients) h.2.is) (little_of _ (little c _ h.2.was)) little
little_one old mid (Leaves c) es said h little = little_put old mid c None (ap (λ (x : Hall). x.clients) h.2.is) (λ y e. cc) little

little_all : (old new : Hall) (acts : List Act) (es : List Happening) (replies : List Numbered) → ActAll old acts es replies new → HasLittle old → HasLittle new
little_all old new [] es replies h little = rw h.2 little
little_all old new (a ∷ acts) es replies h little = little_all h.0 new acts h.2 h.4 h.6 (little_one old h.0 a h.1 h.3 h.5 little)

nobody : (n c : ℕ) (client : Client) → at_number (replicate n None) c ≡ Some client → ⊥
nobody zero c client h = cc
nobody (suc n) zero client h = cc
nobody (suc n) (suc c) client h = nobody n c client h

pub input_is_little : InputIsLittle
input_is_little = record {
  begin = λ h none c client here. absurd (nobody connections c client (sym (ap (λ l. at_number l c) none) ∙ here));
  stays = λ old new acts did little. little_all old new acts did.0 did.1 did.2 little;
}
