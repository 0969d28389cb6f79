-- A text's items, taken in one walk over its code points.
use Rattle.std.proofs.Common.{◌≡◌, Bool, refl, sym, ap, subst, ◌∙◌, ℕ, zero, suc, ◌+◌, ◌-◌, ◌*◌, ◌<◌, ◌≤◌, List, [], ◌∷◌, ◌++◌, append_assoc, append-nil}
use Rattle.std.proofs.Common.{length, length-append, min, take, drop, get_or, arith, ℤ, pos, ◌+ℤ◌, ◌-ℤ◌, ◌<ℤ◌, false, leb, map, nat_lt, not}
use Rattle.std.proofs.{Math.Nat.suc-mul, Math.Utf8.encode, lemmas.Grind.flat_map-append}
use Rattle.std.proofs.lemmas.List.Sums.{prefix_len-le-length, prefix_len_passes}
use Rattle.std.proofs.lemmas.Simd.{length-chunk, run_in_chunk_fails, run_in_chunk_le, trailing_mask_l}
use Rattle.std.proofs.lemmas.Str.{chars_past_char, drop_past_char, length-encode, len_utf8_bounds, IsUtf8-past_char}
use lib.Count.{count_trailing_zeros}
use Rattle.lane_ascii.specs.Runs.{ascii_len}
use Rattle.state_memo.proofs.Prelude.{nat_tests, ints, chars_of_empty, len_utf8, chars, continuation_len, IsUtf8, mask_l, Stride, One, width_of, run_width}
use Rattle.state_memo.proofs.Prelude.{OutputState, Ended, ItemKind, Run, AreAlike, plain_items_from, kept_item, item_of_kind, items_until, items_of_run}
use Rattle.state_memo.proofs.Prelude.{items_of_runs, get_or-drop, length-drop, take_all, prefix_len}
use Rattle.state_memo.proofs.{Leads.IsNext, Leads.next-is, Splitting.until-step}

-- ---- one of four

pub one-of-four : (a b c d len v : ℕ) → (1 ≡ len → a ≡ v) → (2 ≡ len → b ≡ v) → (3 ≡ len → c ≡ v) → (4 ≡ len → d ≡ v) → 1 ≤ len → len ≤ 4
    → get_or (a ∷ b ∷ c ∷ d ∷ []) (len - 1) 0 ≡ v
one-of-four a b c d zero v ea eb ec ed some few = absurd (omega (arith, some))
one-of-four a b c d (suc zero) v ea eb ec ed some few = ea refl
one-of-four a b c d (suc (suc zero)) v ea eb ec ed some few = eb refl
one-of-four a b c d (suc (suc (suc zero))) v ea eb ec ed some few = ec refl
one-of-four a b c d (suc (suc (suc (suc zero)))) v ea eb ec ed some few = ed refl
one-of-four a b c d (suc (suc (suc (suc (suc n))))) v ea eb ec ed some few = absurd (omega (arith, few))

-- ---- the items one by one

pub run-append : (stride : Stride) (cs ds : List ℕ) → run_width stride (cs ++ ds) ≡ run_width stride cs + run_width stride ds
run-append stride [] ds = omega arith
run-append stride (c ∷ cs) ds = omega (arith, run-append stride cs ds)

-- one item more
items-more : (stride : Stride) (from : ℤ) (output : OutputState) (cs : List ℕ) (c : ℕ)
    → plain_items_from stride from output (cs ++ c ∷ []) ≡ plain_items_from stride from output cs
    ++ kept_item (One c) (from +ℤ pos (run_width stride cs + width_of stride c)) output ∷ []
items-more stride from output [] c = ap (λ (n : ℕ). kept_item (One c) (from +ℤ pos n) output ∷ []) (omega arith)
items-more stride from output (d ∷ cs) c =
    let more = run_width stride cs + width_of stride c in
    let end : from +ℤ pos (width_of stride d) +ℤ pos more ≡ from +ℤ pos (width_of stride d + run_width stride cs + width_of stride c) = omega (arith, ints) in
    rw (items-more stride (from +ℤ pos (width_of stride d)) output cs c, end) refl

-- an item that continues with a run
until-more : (kind : ItemKind) (step width more : ℕ) (last : ℤ) → (0 < more → step ≡ width)
    → items_until kind width (last +ℤ pos width) (suc (suc more)) ≡ items_until kind step last (suc more) ++ item_of_kind kind (last +ℤ pos width) ∷ []
until-more kind step width more last same =
    let back : (last +ℤ pos width) -ℤ pos width ≡ last = omega (arith, ints) in rw (back, until-step kind last more step width same) refl

-- ---- the walk

pub at-start : (from : ℤ) → from ≡ from +ℤ pos 0
at-start from = omega (arith, ints)

-- `at` bytes at the front are code points whose items were taken: those of the closed runs, and the last `more` and one of the run that is open
pub record IsWalked (stride : Stride) (kind : ItemKind) (output : OutputState) (text : List ℕ) (from : ℤ) (before : List Ended)
    (capacity at : ℕ) (closed : List Run) (count : ℕ) (last : ℤ) (more step : ℕ) : Type 0 where
  pub within : at ≤ length text
  pub valid : IsUtf8 (drop at text)
  pub front : List ℕ
  pub parts : chars text ≡ front ++ chars (drop at text)
  pub place : last ≡ from +ℤ pos (run_width stride front)
  pub items : items_of_runs closed ++ items_until kind step last (suc more) ≡ before ++ plain_items_from stride from output front
  pub room : count + length (chars (drop at text)) ≤ capacity

fits : (text rest : List ℕ) (at c : ℕ) → drop at text ≡ encode c ++ rest → at + len_utf8 c ≤ length text
fits text rest at c parts =
    omega (arith, length-drop at text, ap length parts, length-append (encode c) rest, length-encode c, (len_utf8_bounds c).0)

-- a code point begins after `at` bytes, which by its first byte has `len`, and whose item has `width`
pub record IsItemAt (stride : Stride) (text : List ℕ) (at len width : ℕ) : Type 0 where
  pub valid : IsUtf8 (drop at text)
  pub some : at < length text
  pub len_is : len ≡ continuation_len (get_or text at 0) + 1
  pub wide : (c : ℕ) → len ≡ len_utf8 c → width ≡ width_of stride c

pub wide-of : (stride : Stride) {len : ℕ} (widths : List ℕ) → ((c : ℕ) → get_or widths (len_utf8 c - 1) 0 ≡ width_of stride c) → (c : ℕ)
    → len ≡ len_utf8 c → get_or widths (len - 1) 0 ≡ width_of stride c
wide-of stride widths widths_are c e = rw e (widths_are c)

-- by the lengths of items
pub item-at : {stride : Stride} {bytes text : List ℕ} {at len : ℕ} (widths : List ℕ)
    → ((c : ℕ) → get_or widths (len_utf8 c - 1) 0 ≡ width_of stride c) → bytes ≡ text → at < length bytes → IsUtf8 (drop at text)
    → len ≡ continuation_len (get_or bytes at 0) + 1 → IsItemAt stride text at len (get_or widths (len - 1) 0)
item-at {stride} widths widths_are same some valid len_is =
    record { valid = valid; some = rw same at some; len_is = rw same at len_is; wide = wide-of stride widths widths_are }

module _ {stride : Stride} {text : List ℕ} {at len width : ℕ} (here : IsItemAt stride text at len width) where
  next : IsNext (drop at text) (get_or text at 0)
  next = next-is (drop at text) (get_or text at 0) here.valid (omega (arith, length-drop at text, here.some))
      (ap (λ (n : ℕ). get_or text n 0) (omega arith) ∙ sym (get_or-drop at text 0 0))

  long : len ≡ len_utf8 next.code_point
  long = here.len_is ∙ next.len

  behind : drop (at + len) text ≡ next.rest
  behind = ap (λ (n : ℕ). drop (at + n) text) long ∙ drop_past_char text next.rest at next.code_point next.parts

  pub next-within : at + len ≤ length text
  next-within = omega (arith, long, fits text next.rest at next.code_point next.parts)

  next-valid : IsUtf8 (drop (at + len) text)
  next-valid = rw behind (IsUtf8-past_char (drop at text) next.rest next.code_point here.valid next.parts)

  next-parts : chars (drop at text) ≡ next.code_point ∷ chars (drop (at + len) text)
  next-parts = chars_past_char (drop at text) next.rest next.code_point here.valid next.parts ∙ ap (λ (bs : List ℕ). next.code_point ∷ chars bs) (sym behind)

  one-less : length (chars (drop at text)) ≡ suc (length (chars (drop (at + len) text)))
  one-less = ap length next-parts

  -- there is room for its run
  pub walked-some : (count capacity : ℕ) → count + length (chars (drop at text)) ≤ capacity → count < capacity
  walked-some count capacity room = omega (arith, one-less, room)

  module _ (from last : ℤ) (front : List ℕ) (parts : chars text ≡ front ++ chars (drop at text)) (place : last ≡ from +ℤ pos (run_width stride front)) where
    width-is : width ≡ width_of stride next.code_point
    width-is = here.wide next.code_point long

    whole : run_width stride (chars text) ≡ run_width stride front + (width + run_width stride (chars (drop (at + len) text)))
    whole = rw (parts, next-parts, run-append, ← width-is) refl

    pub next-fits : (limit start : ℤ) → from ≡ start → (start +ℤ pos (run_width stride (chars text))) <ℤ limit → (last +ℤ pos width) <ℤ limit
    next-fits limit start from_is fits = omega (arith, ints, whole, place, from_is, fits)

    next-front : chars text ≡ (front ++ next.code_point ∷ []) ++ chars (drop (at + len) text)
    next-front = rw (parts, next-parts, append_assoc) refl

    next-place : last +ℤ pos width ≡ from +ℤ pos (run_width stride (front ++ next.code_point ∷ []))
    next-place = omega (arith, ints, place, width-is, run-append stride front (next.code_point ∷ []))

    module _ (kind : ItemKind) (output : OutputState) (one : (end : ℤ)
        → item_of_kind kind end ≡ record { scalars = 1; end = end; error = false; output = output }) where
      -- the items before it, and it
      next-items : (before taken : List Ended) → taken ≡ before ++ plain_items_from stride from output front
          → taken ++ item_of_kind kind (last +ℤ pos width) ∷ [] ≡ before ++ plain_items_from stride from output (front ++ next.code_point ∷ [])
      next-items before taken taken_is =
          let end : from +ℤ pos (run_width stride front + width_of stride next.code_point) ≡ last +ℤ pos width = omega (arith, ints, place, width-is) in
          rw (taken_is, one (last +ℤ pos width), items-more stride from output front next.code_point, end, append_assoc) refl

      -- the items are taken as far as it goes, whatever runs they are in
      pub next-walked : (before taken : List Ended) (capacity count room : ℕ) (closed : List Run) (end : ℤ) (more step : ℕ)
          → end ≡ last +ℤ pos width → taken ≡ before ++ plain_items_from stride from output front
          → items_of_runs closed ++ items_until kind step end (suc more) ≡ taken ++ item_of_kind kind end ∷ []
          → room + length (chars (drop at text)) ≤ capacity → count ≤ room + 1
          → IsWalked stride kind output text from before capacity (at + len) closed count end more step
      next-walked before taken capacity count room closed end more step end_is taken_is items_are some few = record {
        within = next-within;
        valid = next-valid;
        front = front ++ next.code_point ∷ [];
        parts = next-front;
        place = end_is ∙ next-place;
        items = items_are ∙ rw end_is (next-items before taken taken_is);
        room = omega (arith, one-less, some, few);
      }

-- the first item
pub walked-first : {stride : Stride} {text : List ℕ} {len width : ℕ} → IsItemAt stride text 0 len width
    → {kind : ItemKind} {output : OutputState} → ((end : ℤ) → item_of_kind kind end ≡ record { scalars = 1; end = end; error = false; output = output })
    → (from : ℤ) (before : List Ended) (capacity count room : ℕ) (closed : List Run) (first : Run) (end : ℤ) → end ≡ from +ℤ pos width
    → first.kind ≡ kind → first.last ≡ end
    → items_of_runs closed ++ items_of_run first ≡ before ++ item_of_kind kind end ∷ [] → room + length (chars text) ≤ capacity → count ≤ room + 1
    → IsWalked stride kind output text from before capacity len closed count end first.more first.step
walked-first {stride} {text} {len} here {kind} {output} one from before capacity count room closed first end end_is kind_is last_is items_are some few =
    let from_start : len ≡ 0 + len = omega arith in
    rw from_start (next-walked here from from [] refl (at-start from) kind output one before before capacity count room closed end first.more first.step
    end_is (sym (append-nil before))
    (ap (λ (k : ItemKind). items_of_runs closed ++ items_until k first.step end (suc first.more)) (sym kind_is)
    ∙ ap (λ (l : ℤ). items_of_runs closed ++ items_until first.kind first.step l (suc first.more)) (sym last_is) ∙ items_are)
    some few)

module _ {stride : Stride} {text : List ℕ} {at len width : ℕ} (here : IsItemAt stride text at len width)
    {kind : ItemKind} {output : OutputState} {from last : ℤ} {before : List Ended} {capacity count more step : ℕ} {closed : List Run}
    (held : IsWalked stride kind output text from before capacity at closed count last more step) where
  pub walked-fits : (limit start : ℤ) → from ≡ start → (start +ℤ pos (run_width stride (chars text))) <ℤ limit → (last +ℤ pos width) <ℤ limit
  walked-fits = next-fits here from last held.front held.parts held.place

  module _ (one : (end : ℤ) → item_of_kind kind end ≡ record { scalars = 1; end = end; error = false; output = output }) (end : ℤ)
      (end_is : end ≡ last +ℤ pos width) where
    -- an item that continues with the open run
    pub walked-on : (then_more then_step : ℕ) → then_more ≡ more + 1 → then_step ≡ width → (0 < more → step ≡ width)
        → IsWalked stride kind output text from before capacity (at + len) closed count end then_more then_step
    walked-on then_more then_step more_is step_is same =
        let is_more : then_more ≡ suc more = omega (arith, more_is) in
        next-walked here from last held.front held.parts held.place kind output one before
        (items_of_runs closed ++ items_until kind step last (suc more)) capacity count count closed end then_more then_step end_is held.items
        (rw is_more (ap (λ (n : ℕ). items_of_runs closed ++ items_until kind n end (suc (suc more))) step_is
        ∙ rw (end_is, until-more kind step width more last same, append_assoc (items_of_runs closed)) refl))
        held.room (omega arith)

    -- an item that begins a run
    pub walked-new : (run : Run) (then : List Run) (then_count then_capacity : ℕ)
        → run ≡ record { last = last; more = more; step = step; kind = kind } → then ≡ closed ++ run ∷ [] → then_count ≡ count + 1 → then_capacity ≡ capacity
        → IsWalked stride kind output text from before then_capacity (at + len) then then_count end 0 step
    walked-new run then then_count then_capacity run_is then_is count_is capacity_is =
        next-walked here from last held.front held.parts held.place kind output one before
        (items_of_runs closed ++ items_until kind step last (suc more)) then_capacity then_count count then end 0 step end_is held.items
        (rw (then_is, flat_map-append items_of_run closed (run ∷ []), append-nil (items_of_run run))
        (ap (λ (r : Run). (items_of_runs closed ++ items_of_run r) ++ item_of_kind kind end ∷ []) run_is))
        (omega (arith, held.room, capacity_is)) (omega (arith, count_is))

-- one after the first
alike-behind : (text : List ℕ) (at len n : ℕ) → AreAlike text at len (suc n) → AreAlike text (at + len) len n
alike-behind text at len n alike k lt =
    let next = alike (suc k) (omega (arith, lt)) in
    let far : at + suc k * len ≡ at + len + k * len = omega arith in
    (rw far at next.0, rw far at next.1)

-- ASCII
low-alike : (bytes : List ℕ) (n : ℕ) → n ≤ length bytes → ((k : ℕ) → k < n → get_or bytes k 0 < 128) → AreAlike bytes 0 1 n
low-alike bytes n few low k lt =
    let here : 0 + k * 1 ≡ k = omega arith in
    rw here (omega (arith, few, lt), by (get_or bytes k 0) (low k lt))
  where
    by : (b : ℕ) → b < 128 → 1 ≡ continuation_len b + 1
    by b h = grind (arith, nat_tests)

pub ascii-alike : (bytes : List ℕ) (n : ℕ) → n ≡ ascii_len bytes → AreAlike bytes 0 1 n
ascii-alike bytes n is =
    let low : ℕ → Bool = λ b. nat_lt b 128 in
    low-alike bytes n (omega (arith, is, prefix_len-le-length low bytes))
    (λ k lt. grind (arith, nat_tests, prefix_len_passes low bytes k 0 (omega (arith, lt, is))))

-- sixteen bytes: as many as are before the first that isn't ASCII
pub front-alike : (bytes : List ℕ) (others : ℕ) → 16 ≤ length bytes → others ≡ mask_l (map (leb 128) (take 16 bytes)) → 0 < others
    → AreAlike bytes 0 1 (count_trailing_zeros 64 others)
front-alike bytes others room is some =
    let run = count_trailing_zeros 64 others in
    let counted : run ≡ prefix_len (λ x. not (leb 128 x)) (take 16 bytes) =
    ap (count_trailing_zeros 64) is ∙ trailing_mask_l (leb 128) 64 (take 16 bytes) (omega (arith, length-chunk 0 16 bytes room)) (omega (arith, is, some)) in
    low-alike bytes run (omega (arith, room, run_in_chunk_le (leb 128) bytes 0 16 run 0 room counted))
    (λ k lt. grind (arith, nat_tests, run_in_chunk_fails (leb 128) bytes 0 16 run 0 room counted k (omega arith) (omega (arith, lt))))

pub alike-in : (bytes text : List ℕ) (at len n most m : ℕ) → bytes ≡ text → m ≡ min n most → AreAlike bytes at len n → AreAlike text at len m
alike-in bytes text at len n most m same is alike = λ k lt. subst (λ (bs : List ℕ). AreAlike bs at len n) same alike k (omega (arith, lt, is))

-- the same of a part that goes to the end, and fewer
pub alike-part : (bytes text : List ℕ) (at len n most m : ℕ) → bytes ≡ text → AreAlike (take (length bytes - at) (drop at bytes)) 0 len n
    → m ≡ min n most → AreAlike text at len m
alike-part bytes text at len n most m same alike is k lt =
    let next = subst (λ (bs : List ℕ). AreAlike bs 0 len n)
    (take_all (length bytes - at) (drop at bytes) (omega (arith, length-drop at bytes)) ∙ ap (drop at) same) alike k (omega (arith, lt, is)) in (
      omega (arith, next.0, length-drop at text),
      next.1 ∙ ap (λ (b : ℕ). continuation_len b + 1) (get_or-drop at text (0 + k * len) 0 ∙ ap (λ (i : ℕ). get_or text i 0) (omega arith)),
    )

module _ (stride : Stride) (kind : ItemKind) (output : OutputState) (text : List ℕ) (from : ℤ) (before : List Ended) (capacity : ℕ)
    (closed : List Run) (count width len : ℕ)
    (one : (end : ℤ) → item_of_kind kind end ≡ record { scalars = 1; end = end; error = false; output = output }) (wide : (c : ℕ)
    → len ≡ len_utf8 c → width ≡ width_of stride c) where
  -- code points that are alike continue with a run of items that are as long
  walked-alike : (n at more : ℕ) (last : ℤ) → AreAlike text at len n → IsWalked stride kind output text from before capacity at closed count last more width
      → IsWalked stride kind output text from before capacity (at + n * len) closed count (last +ℤ pos (n * width)) (more + n) width
  walked-alike zero at more last alike held =
      let far : at + 0 * len ≡ at = omega arith in
      let end : last +ℤ pos (0 * width) ≡ last = omega (arith, ints) in
      let all : more + 0 ≡ more = omega arith in
      rw (far, end, all) held
  walked-alike (suc n) at more last alike held =
      let here : at + 0 * len ≡ at = omega arith in
      let first = rw here at (alike 0 (omega arith)) in
      let item : IsItemAt stride text at len width = record { valid = held.valid; some = first.0; len_is = first.1; wide = wide } in
      let next = walked-on item held one (last +ℤ pos width) refl (more + 1) width refl refl (λ _. refl) in
      let far : at + suc n * len ≡ at + len + n * len = omega arith in
      let end : last +ℤ pos (suc n * width) ≡ (last +ℤ pos width) +ℤ pos (n * width) = omega (arith, ints, suc-mul n width) in
      let all : more + suc n ≡ more + 1 + n = omega arith in
      rw (far, end, all) (walked-alike n (at + len) (more + 1) (last +ℤ pos width) (alike-behind text at len n alike) next)

module _ {stride : Stride} {kind : ItemKind} {output : OutputState} {text : List ℕ} {from : ℤ} {before : List Ended}
    {capacity at : ℕ} {closed : List Run} {count : ℕ} {last : ℤ} {more step : ℕ}
    (held : IsWalked stride kind output text from before capacity at closed count last more step) where
  -- the items end before a limit that those of the whole text end before
  pub walked-below : (limit start : ℤ) → from ≡ start → (start +ℤ pos (run_width stride (chars text))) <ℤ limit → last <ℤ limit
  walked-below limit start from_is fits =
      let whole = ap (run_width stride) held.parts ∙ run-append stride held.front (chars (drop at text)) in
      omega (arith, ints, whole, held.place, from_is, fits)

  -- the same, as it is named after a branch
  pub walked-joined : (then_at : ℕ) (then : ℤ) (then_more then_step : ℕ) → then_at ≡ at → then ≡ last → then_more ≡ more → then_step ≡ step
      → IsWalked stride kind output text from before capacity then_at closed count then then_more then_step
  walked-joined then_at then then_more then_step at_is last_is more_is step_is = rw (at_is, last_is, more_is, step_is) held

  -- all of the text
  pub walked-whole : length text ≤ at
      → items_of_runs closed ++ items_until kind step last (suc more) ≡ before ++ plain_items_from stride from output (chars text)
  walked-whole past =
      let none : length (drop at text) ≡ 0 = omega (arith, length-drop at text, past) in
      held.items ∙ rw (held.parts, chars_of_empty (drop at text) none, append-nil) refl

module _ {stride : Stride} {text : List ℕ} {at len width : ℕ} (wide : (c : ℕ) → len ≡ len_utf8 c → width ≡ width_of stride c)
    {kind : ItemKind} {output : OutputState} {from last : ℤ} {before : List Ended} {capacity count more step : ℕ} {closed : List Run}
    (held : IsWalked stride kind output text from before capacity at closed count last more step)
    (one : (end : ℤ) → item_of_kind kind end ≡ record { scalars = 1; end = end; error = false; output = output })
    (n : ℕ) (end : ℤ) (end_is : end ≡ last +ℤ pos (n * width)) (alike : AreAlike text at len n) where
  -- n code points that are alike continue with the open run
  pub walked-run : (0 < more → step ≡ width) → IsWalked stride kind output text from before capacity (at + n * len) closed count end (more + n) width
  walked-run same =
      let stepped : IsWalked stride kind output text from before capacity at closed count last more width = record {
        within = held.within;
        valid = held.valid;
        front = held.front;
        parts = held.parts;
        place = held.place;
        items = rw (← until-step kind last more step width same) held.items;
        room = held.room;
      } in
      rw end_is (walked-alike stride kind output text from before capacity closed count width len one wide n at more last alike stepped)

  -- a run that has one item continues with any that are alike
  pub walked-from : more ≡ 0 → IsWalked stride kind output text from before capacity (at + n * len) closed count end n width
  walked-from none = walked-joined (walked-run (λ lt. absurd (omega (arith, none, lt)))) _ _ _ _ refl refl (omega (arith, none)) refl
