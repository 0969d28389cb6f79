-- Cuts between code points, found by what pieces remember.
use Rattle.std.proofs.Common.{ℕ, ◌≡◌, refl, sym, ap, ◌∙◌, suc, ◌+◌, ◌-◌, ◌<◌, ◌≤◌, ◌==◌, eqb, Bool, nat_lt, nat_le, length-append}
use Rattle.position_map.proofs.Words.{true, false, List, [], ◌∷◌, ◌++◌, length, drop, arith, Option, Some, None, inl, inr, slice_get, option_eq, option_map}
use Rattle.position_map.proofs.Words.{nat_tests, Turned, Ascii, Placed, places, item_code_points, code_points, decode, run_in, in_force, mark_length, Ended}
use Rattle.position_map.proofs.Words.{Outcome, Sum, total_of, item_of, Document, decoded, text_of, AreEnded, ends_at, output_at, HasOutputs, HaveOutputs, Cut}
use Rattle.position_map.proofs.Words.{cut_behind, cut_of, Scalar, measure, last_to, IsPlaced, item_width, cut, Pieced, by_le, by_test, same_some, none_some}
use Rattle.position_map.proofs.{Words.map_none, Words.map_some, Words.none_past, Chains.item-here, Chains.item-later, Chains.item-next, Chains.cut_around}
use Rattle.std.proofs.lemmas.List.Elements.{All-head, All-tail}
use Rattle.position_map.{specs.Plan.cut_at, proofs.Items.IsPieced, proofs.Items.piece_count}

-- ---- items of a piece

cut-later : (base : ℕ) (e : Ended) (es : List Ended) (n : ℕ) → e.scalars < n → cut_behind base (e ∷ es) n ≡ cut_behind base es (n - e.scalars)
cut-later base e es n h = let t : nat_lt e.scalars n ≡ true = grind (arith, nat_tests) in rw t refl

cut-end : (base : ℕ) (e : Ended) (es : List Ended) (n : ℕ) → e.scalars ≡ n
    → cut_behind base (e ∷ es) n ≡ Some (record { at = ends_at base e.end; output = e.output })
cut-end base e es n h =
    let t : nat_lt e.scalars n ≡ false = grind (arith, nat_tests) in let s : (e.scalars == n) ≡ true = grind (arith, nat_tests) in rw (t, s) refl

cut-within : (base : ℕ) (e : Ended) (es : List Ended) (n : ℕ) → n < e.scalars → cut_behind base (e ∷ es) n ≡ None
cut-within base e es n h =
    let t : nat_lt e.scalars n ≡ false = grind (arith, nat_tests) in let s : (e.scalars == n) ≡ false = grind (arith, nat_tests) in rw (t, s) refl

-- the last code point of those in front is in no item
pub cut-none : (base : ℕ) (es : List Ended) (n : ℕ) → 0 < n → item_of es (n - 1) ≡ None → cut_behind base es n ≡ None
cut-none base [] n some h = refl
cut-none base (e ∷ es) n some h =
    by_le e.scalars (n - 1)
    (λ le.
    let less : n - 1 - e.scalars ≡ n - e.scalars - 1 = omega arith in
    let rest = map_none (λ j. j + 1) (item_of es (n - 1 - e.scalars)) (sym (item-later e es (n - 1) le) ∙ h) in
    cut-later base e es n (omega (arith, le, some)) ∙ cut-none base es (n - e.scalars) (omega (arith, le, some)) (rw less at rest))
    (λ lt. absurd (none_some (sym h ∙ item-here e es (n - 1) lt)))

-- it and the next one are in the same item
pub cut-inside : (base : ℕ) (es : List Ended) (n k : ℕ) → 0 < n → item_of es (n - 1) ≡ Some k → item_of es n ≡ Some k → cut_behind base es n ≡ None
cut-inside base [] n k some h g = refl
cut-inside base (e ∷ es) n k some h g =
    by_le e.scalars (n - 1)
    (λ le.
    let less : n - 1 - e.scalars ≡ n - e.scalars - 1 = omega arith in
    let one = item-next e es (n - 1) k le h in
    let two = item-next e es n k (omega (arith, le)) g in
    let same : two.0 ≡ one.0 = omega (arith, one.2, two.2) in
    cut-later base e es n (omega (arith, le, some))
    ∙ cut-inside base es (n - e.scalars) one.0 (omega (arith, le, some)) (rw less at one.1) (rw same at two.1))
    (λ lt.
    let first : k ≡ 0 = same_some (sym h ∙ item-here e es (n - 1) lt) in
    by_le e.scalars n
    (λ le. absurd (omega (arith, first, (item-next e es n k le g).2)))
    (λ below. cut-within base e es n below))

-- it is the last one of its item
pub cut-behind : (base : ℕ) (es : List Ended) (n k : ℕ) (e : Ended) → 0 < n → item_of es (n - 1) ≡ Some k → (item_of es n ≡ Some k → ⊥)
    → slice_get es k ≡ Some e → cut_behind base es n ≡ Some (record { at = ends_at base e.end; output = e.output })
cut-behind base [] n k x some h g at = absurd (none_some h)
cut-behind base (e ∷ es) n k x some h g at =
    by_le e.scalars (n - 1)
    (λ le.
    let less : n - 1 - e.scalars ≡ n - e.scalars - 1 = omega arith in
    let one = item-next e es (n - 1) k le h in
    let next : item_of es (n - e.scalars) ≡ Some one.0
    → ⊥ = λ same. g (item-later e es n (omega (arith, le)) ∙ ap (option_map (λ j. j + 1)) same ∙ ap Some one.2) in
    let place : k ≡ suc one.0 = omega (arith, one.2) in
    cut-later base e es n (omega (arith, le, some))
    ∙ cut-behind base es (n - e.scalars) one.0 x (omega (arith, le, some)) (rw less at one.1) next (rw place at at))
    (λ lt.
    let first : k ≡ 0 = same_some (sym h ∙ item-here e es (n - 1) lt) in
    let is : e ≡ x = same_some (rw first at at) in
    by_le e.scalars n
    (λ le. cut-end base e es n (omega (arith, le, lt, some)) ∙ rw is refl)
    (λ below. absurd (g (item-here e es n below ∙ ap Some (sym first)))))

-- what the code asks of two numbers of items
same_item : (o : Option ℕ) (k : ℕ) → option_eq eqb o (Some k) ≡ true → o ≡ Some k
same_item None k h = absurd cc
same_item (Some j) k h = ap Some (grind (arith, nat_tests, h))

other_item : (o : Option ℕ) (k : ℕ) → option_eq eqb o (Some k) ≡ false → o ≡ Some k → ⊥
other_item None k h e = none_some e
other_item (Some j) k h e = let same : j ≡ k = same_some e in grind (arith, nat_tests, h, same)

pub is_inside : (base : ℕ) (es : List Ended) (n k : ℕ) (o : Option ℕ) (b : Bool) → 0 < n → Some k ≡ item_of es (n - 1) → o ≡ item_of es n
    → b ≡ option_eq eqb o (Some k) → b ≡ true → None ≡ cut_behind base es n
is_inside base es n k o b some h next asked hit = sym (cut-inside base es n k some (sym h) (sym next ∙ same_item o k (sym asked ∙ hit)))

pub is_cut : (base : ℕ) (es : List Ended) (n k : ℕ) (o : Option ℕ) (b : Bool) (e : Ended) → 0 < n → Some k ≡ item_of es (n - 1)
    → o ≡ item_of es n → b ≡ option_eq eqb o (Some k) → b ≡ false → Some e ≡ slice_get es k
    → Some (record { at = ends_at base e.end; output = e.output }) ≡ cut_behind base es n
is_cut base es n k o b e some h next asked miss there =
    sym (cut-behind base es n k e some (sym h) (λ same. other_item o k (sym asked ∙ miss) (next ∙ same)) (sym there))

-- there is an item that has a code point
pub item_there : {A : Type 0} (es : List Ended) (k : ℕ) → k < length es → None ≡ slice_get es k → A
item_there es k h g = absurd (omega (arith, none_past es k (sym g), h))

-- ---- items of a document

cut_at-zero : (at : ℕ) (ps : List Placed) → cut_at at ps 0 ≡ Some at
cut_at-zero at [] = refl
cut_at-zero at (p ∷ ps) = refl

cut_at-later : (at : ℕ) (p : Placed) (ps : List Placed) (n : ℕ) → 0 < n → item_width p.item ≤ n → cut_at at (p ∷ ps) n ≡ cut_at p.to ps (n - item_width p.item)
cut_at-later at p ps n some h =
    let z : (n == 0) ≡ false = grind (arith, nat_tests) in let t : nat_le (item_width p.item) n ≡ true = grind (arith, nat_tests) in rw (z, t) refl

cut_at-inside : (at : ℕ) (p : Placed) (ps : List Placed) (n : ℕ) → 0 < n → n < item_width p.item → cut_at at (p ∷ ps) n ≡ None
cut_at-inside at p ps n some h =
    let z : (n == 0) ≡ false = grind (arith, nat_tests) in let t : nat_le (item_width p.item) n ≡ false = grind (arith, nat_tests) in rw (z, t) refl

-- items all of whose code points are in front
cut_at-skip : (at : ℕ) (xs ys : List Placed) (n : ℕ) → length (code_points xs) < n
    → cut_at at (xs ++ ys) n ≡ cut_at (last_to at xs) ys (n - length (code_points xs))
cut_at-skip at [] ys n h = let e : n ≡ n - 0 = omega arith in ap (cut_at at ys) e
cut_at-skip at (p ∷ xs) ys n h =
    let size = length-append (item_code_points p.item) (code_points xs) in
    let less : n - item_width p.item - length (code_points xs) ≡ n - length (code_points (p ∷ xs)) = omega (arith, size) in
    cut_at-later at p (xs ++ ys) n (omega (arith, h)) (omega (arith, size, h))
    ∙ cut_at-skip p.to xs ys (n - item_width p.item) (omega (arith, size, h)) ∙ ap (cut_at (last_to p.to xs) ys) less

abbrev with_output : Document → Option ℕ → Option Cut
with_output d o = option_map (λ at. record { at = at; output = output_at d at }) o

-- in a piece
cut_at-here : (d : Document) (base at : ℕ) (ps more : List Placed) (es : List Ended) (n : ℕ) → AreEnded base ps es → HasOutputs d base es
    → 0 < n → n ≤ length (code_points ps) → with_output d (cut_at at (ps ++ more) n) ≡ cut_behind base es n
cut_at-here d base at [] more es n ended outputs some h = absurd (omega (arith, some, h))
cut_at-here d base at (p ∷ ps) more [] n ended outputs some h = absurd ended
cut_at-here d base at (p ∷ ps) more (e ∷ es) n ended outputs some h =
    let width : e.scalars ≡ item_width p.item = ended.0.scalars in
    let size = length-append (item_code_points p.item) (code_points ps) in
    let output : e.output ≡ output_at d (ends_at base e.end) = All-head (λ (x : Ended). x.output ≡ output_at d (ends_at base x.end)) e es outputs in
    let later : HasOutputs d base es = All-tail (λ (x : Ended). x.output ≡ output_at d (ends_at base x.end)) e es outputs in
    by_le (item_width p.item) n
    (λ le.
    rw (cut_at-later at p (ps ++ more) n some le)
    (by_le n (item_width p.item)
    (λ all.
    let none : n - item_width p.item ≡ 0 = omega (arith, all) in
    rw (none, cut_at-zero p.to (ps ++ more), cut-end base e es n (omega (arith, width, all, le)), ended.0.end, output) refl)
    (λ more_left.
    rw (cut-later base e es n (omega (arith, width, more_left)), width)
    (cut_at-here d base p.to ps more es (n - item_width p.item) ended.1 later (omega (arith, more_left)) (omega (arith, size, h))))))
    (λ inside. rw (cut_at-inside at p (ps ++ more) n some inside, cut-within base e es n (omega (arith, width, inside))) refl)

-- ---- what a search finds

outputs_split : (d : Document) (front : List Outcome) (o : Outcome) (back : List Outcome) (base : ℕ)
    → HaveOutputs d base (front ++ o ∷ back) → HasOutputs d (base + (total_of front).bytes) o.items
outputs_split d [] o back base h = let e : base + 0 ≡ base = omega arith in rw e h.0
outputs_split d (x ∷ front) o back base h =
    let e : base + x.sum.bytes + (total_of front).bytes ≡ base + (x.sum.bytes + (total_of front).bytes) = omega arith in
    rw e at (outputs_split d front o back (base + x.sum.bytes) h.1)

pub cut_found : (d : Pieced) (n m : ℕ) (s : Sum) (o : Outcome) → IsPlaced (measure Scalar) d m s o → IsPieced d → m ≡ n - 1 → 0 < n
    → n ≤ length (text_of d.doc) → cut_behind s.bytes o.items (n - s.scalars) ≡ cut_of d.doc n
cut_found d n m s o p w before some within =
    let c = cut_around (measure Scalar) d m s o p w in
    let base : 0 + (total_of p.front).bytes ≡ s.bytes = omega (arith, ap (λ (v : Sum). v.bytes) p.sum) in
    let outputs : HasOutputs d.doc s.bytes o.items = rw base at (outputs_split d.doc p.front o p.back 0 (rw p.split at w.outputs)) in
    let here : length (code_points c.here) ≡ o.sum.scalars = piece_count s.bytes c.here o c.own in
    let enough : n ≤ s.scalars + o.sum.scalars = elim p.high [
      | inl e ↦ let none : (total_of p.back).scalars ≡ 0 = rw e refl in omega (arith, none, c.all, within)
      | inr g ↦ omega (arith, g, before, some)
    ] in
    let low : s.scalars < n = omega (arith, p.low, before, some) in
    let bom = (decoded d.doc).bom in
    sym (ap (λ t. with_output d.doc (cut_at bom t n)) c.split
    ∙ rw (cut_at-skip bom c.left (c.here ++ c.rest) n (omega (arith, c.count, low)), c.count)
    (cut_at-here d.doc s.bytes (last_to bom c.left) c.here c.rest o.items (n - s.scalars) c.own.items outputs (omega (arith, low))
    (omega (arith, here, enough, low))))

-- ---- a cut lies within the bytes

cut-fits : (total : ℕ) (es : List Turned) (from at n x : ℕ) → at ≤ total → cut_at at (places total from es) n ≡ Some x → x ≤ total
cut-fits total [] from at n x low h =
    by_test (n == 0) (λ t. let same : at ≡ x = same_some (rw t at h) in omega (arith, same, low)) (λ t. absurd (none_some (rw t at h)))
cut-fits total (e ∷ es) from at n x low h =
    let p : Placed = record { item = e.item; from = from; to = total - e.back } in
    let rest = places total (total - e.back) es in
    by_le 1 n
    (λ some.
    by_le (item_width e.item) n
    (λ le. cut-fits total es (total - e.back) (total - e.back) (n - item_width e.item) x (omega arith) (sym (cut_at-later at p rest n some le) ∙ h))
    (λ lt. absurd (none_some (sym (cut_at-inside at p rest n some lt) ∙ h))))
    (λ none.
    let first : n ≡ 0 = omega (arith, none) in
    let same : at ≡ x = same_some (sym (cut_at-zero at (p ∷ rest)) ∙ (rw first at h)) in
    omega (arith, same, low))

place-fits : (d : Document) (n x : ℕ) → (decoded d).bom ≤ length d.bytes → cut d n ≡ Some x → x ≤ length d.bytes
unfolding decode
place-fits d n x low =
    cut-fits (length d.bytes) (run_in d.indexes (in_force d.setting d.bytes) (drop (mark_length d.setting d.bytes) d.bytes))
    (mark_length d.setting d.bytes) (mark_length d.setting d.bytes) n x low

pub cut_some : (d : Document) (n : ℕ) (c : Cut) → Some c ≡ cut_of d n → (cut d n ≡ Some c.at) × (output_at d c.at ≡ c.output)
cut_some d n c e =
    let w = map_some (λ at. record { at = at; output = output_at d at }) (cut d n) c (sym e) in
    rw (← w.2) (w.1, refl)

pub cut_none : (d : Document) (n : ℕ) → None ≡ cut_of d n → cut d n ≡ None
cut_none d n e = map_none (λ at. record { at = at; output = output_at d at }) (cut d n) (sym e)

pub cut_fits : (p d : Document) (same : p ≡ d) (n : ℕ) (c : Cut) → (decoded d).bom ≤ length d.bytes → Some c ≡ cut_of p n → c.at ≤ length d.bytes
cut_fits p d same n c low e = place-fits d n c.at low (cut_some d n c (rw same at e)).0

-- before the first code point
pub first_is : (d : Document) → output_at d (decoded d).bom ≡ Ascii → Some (record { at = (decoded d).bom; output = Ascii }) ≡ cut_of d 0
first_is d e = rw (cut_at-zero (decoded d).bom (decoded d).items, e) refl
