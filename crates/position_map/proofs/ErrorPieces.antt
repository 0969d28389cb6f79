-- The errors of a document, piece by piece.
use Rattle.std.proofs.Common.{ℕ, ◌≡◌, refl, sym, ap, cond, nat_lt, nat_le, length-append, map, append_assoc}
use Rattle.position_map.proofs.Words.{subst, ◌∙◌, ◌+◌, ◌≤◌, inl, inr, true, List, [], ◌∷◌, ◌++◌, length, arith, Ok, length-map, map-append, count_by-le-length}
use Rattle.position_map.proofs.Words.{nat_tests, Item, One, Two, Error, Placed, item_code_points, code_points, error_place, error_places, Document, decoded}
use Rattle.position_map.proofs.Words.{text_of, decoded_text, errors_of, decoded_errors, AreEnded, IsMade, AreMade, Ended, Outcome, Sum, joined, total_of}
use Rattle.position_map.proofs.Words.{all_scalars, is_an_error, Scalar, measure, Position, TextUnit, ErrorAt, error_if, errors_from, all_errors, diagnostic_at}
use Rattle.position_map.proofs.Words.{diagnostics_of, error_scalars, scalar_of, IsPlaced, position, position_of, Pieced, by_le, same_ok, by_test}
use Rattle.position_map.specs.Diagnostics.{place_in}
use Rattle.position_map.proofs.{Chains.item_some, Chains.IsCutAround, Chains.cut_around, Items.IsPieced, Items.items_of, Items.counted, Items.piece_count}
use Rattle.position_map.proofs.ErrorRuns.{below, below-append, below-yes, below-no, error_scalars-length}

-- the errors of items are those of the document
place-alone : (text : List ℕ) (unit : TextUnit) (i : Item) (x : ErrorAt) → map place_in (map (diagnostic_at text unit) (error_if i x)) ≡ error_place i x.place
place-alone text unit (One c) x = refl
place-alone text unit (Two a b) x = refl
place-alone text unit Error x = refl

places-from : (text : List ℕ) (unit : TextUnit) (n : ℕ) (ps : List Placed) → map place_in (map (diagnostic_at text unit) (errors_from n ps)) ≡ error_places ps
places-from text unit n [] = refl
places-from text unit n (p ∷ ps) =
    let x : ErrorAt = record { place = record { from = p.from; to = p.to }; scalar = n } in
    rw (map-append, map-append, place-alone text unit p.item x, places-from text unit (n + length (item_code_points p.item)) ps) refl

pub places-are : (d : Document) (unit : TextUnit) → map place_in (diagnostics_of d unit) ≡ errors_of d
unfolding diagnostics_of decoded_errors
places-are d unit = places-from (text_of d) unit 0 (decoded d).items

pub diagnostics-count : (d : Document) (unit : TextUnit) → length (diagnostics_of d unit) ≡ length (errors_of d)
diagnostics-count d unit = sym (length-map (diagnostics_of d unit) place_in) ∙ ap length (places-are d unit)

pub errors-count : (d : Document) (unit : TextUnit) → length (all_errors d) ≡ length (errors_of d)
unfolding diagnostics_of
errors-count d unit = sym (length-map (all_errors d) (diagnostic_at (text_of d) unit)) ∙ diagnostics-count d unit

pub errors-append : (n : ℕ) (xs ys : List Placed) → errors_from n (xs ++ ys) ≡ errors_from n xs ++ errors_from (n + length (code_points xs)) ys
errors-append n [] ys = let e : n ≡ n + 0 = omega arith in ap (λ m. errors_from m ys) e
errors-append n (p ∷ xs) ys =
    let w = n + length (item_code_points p.item) in
    let e : w + length (code_points xs) ≡ n + length (code_points (p ∷ xs)) = omega (arith, length-append (item_code_points p.item) (code_points xs)) in
    rw (errors-append w xs ys, e, append_assoc) refl

-- the numbers of the errors' code points
abbrev pub numbers : ℕ → List Placed → List ℕ
numbers n ps = map scalar_of (errors_from n ps)

item-number : (i : Item) (x : ErrorAt) (rest : List ℕ) → map scalar_of (error_if i x) ++ rest ≡ cond (is_an_error i) (x.scalar ∷ rest) rest
item-number (One c) x rest = refl
item-number (Two a b) x rest = refl
item-number Error x rest = refl

numbers-cons : (n : ℕ) (p : Placed) (ps : List Placed)
    → numbers n (p ∷ ps) ≡ cond (is_an_error p.item) (n ∷ numbers (n + length (item_code_points p.item)) ps) (numbers (n + length (item_code_points p.item)) ps)
numbers-cons n p ps =
    let x : ErrorAt = record { place = record { from = p.from; to = p.to }; scalar = n } in
    let rest = errors_from (n + length (item_code_points p.item)) ps in
    map-append scalar_of (error_if p.item x) rest ∙ item-number p.item x (map scalar_of rest)

numbers-append : (n : ℕ) (xs ys : List Placed) → numbers n (xs ++ ys) ≡ numbers n xs ++ numbers (n + length (code_points xs)) ys
numbers-append n xs ys = rw (errors-append n xs ys, map-append) refl

numbers-ended : (base n : ℕ) (ps : List Placed) (es : List Ended) → AreEnded base ps es → numbers n ps ≡ error_scalars n es
numbers-ended base n [] [] w = refl
numbers-ended base n [] (e ∷ es) w = absurd w
numbers-ended base n (p ∷ ps) [] w = absurd w
numbers-ended base n (p ∷ ps) (e ∷ es) w =
    rw (numbers-cons n p ps, numbers-ended base (n + length (item_code_points p.item)) ps es w.1, ← w.0.scalars, ← w.0.error) refl

piece-errors : (base n : ℕ) (ps : List Placed) (o : Outcome) → IsMade base ps o → length (numbers n ps) ≡ o.sum.errors
piece-errors base n ps o m = ap length (numbers-ended base n ps o.items m.items) ∙ error_scalars-length n o.items ∙ sym o.summed.errors

made-errors : (os : List Outcome) (base n : ℕ) (ps : List Placed) → AreMade base ps os → length (numbers n ps) ≡ (total_of os).errors
made-errors [] base n ps m = ap (λ t. length (numbers n t)) m
made-errors (o ∷ os) base n ps m =
    let rest = made-errors os (base + o.sum.bytes) (n + length (code_points m.0)) m.1 m.4 in
    rw (m.2, numbers-append n m.0 m.1) (omega (arith, length-append {A = ℕ}, piece-errors base n m.0 o m.3, rest))

error-few : (i : Item) (x : ErrorAt) → length (error_if i x) ≤ length (item_code_points i)
error-few (One c) x = omega arith
error-few (Two a b) x = omega arith
error-few Error x = omega arith

errors-few : (n : ℕ) (ps : List Placed) → length (errors_from n ps) ≤ length (code_points ps)
errors-few n [] = omega arith
errors-few n (p ∷ ps) =
    let x : ErrorAt = record { place = record { from = p.from; to = p.to }; scalar = n } in
    let rest = errors-few (n + length (item_code_points p.item)) ps in
    omega (arith, error-few p.item x, rest, length-append {A = ErrorAt}, length-append {A = ℕ})

-- all the errors are before a code point after the items, and none before one before them
below-all : (m n : ℕ) (ps : List Placed) → n + length (code_points ps) ≤ m → below m (numbers n ps) ≡ length (numbers n ps)
below-all m n [] h = refl
below-all m n (p ∷ ps) h =
    let w = n + length (item_code_points p.item) in
    let size = length-append (item_code_points p.item) (code_points ps) in
    let rest = below-all m w ps (omega (arith, h, size)) in
    let yes = below-yes m n (numbers w ps) (omega (arith, h, size, item_some p.item)) in
    rw (numbers-cons n p ps) (by_test (is_an_error p.item) (λ t. rw t (omega (arith, yes, rest))) (λ t. rw t rest))

below-none : (m n : ℕ) (ps : List Placed) → m ≤ n → below m (numbers n ps) ≡ 0
below-none m n [] h = refl
below-none m n (p ∷ ps) h =
    let w = n + length (item_code_points p.item) in
    let rest = below-none m w ps (omega (arith, h)) in
    rw (numbers-cons n p ps) (by_test (is_an_error p.item) (λ t. rw t (below-no m n (numbers w ps) h ∙ rest)) (λ t. rw t rest))

numbers-in_text : (d : Document) → length (map scalar_of (all_errors d)) ≤ length (text_of d)
unfolding decoded_text
numbers-in_text d = rw (length-map (all_errors d) scalar_of) (errors-few 0 (decoded d).items)

-- the errors round the piece in which an item is sought
module _ (measured : Sum → ℕ) (d : Pieced) (n : ℕ) (s : Sum) (o : Outcome) (p : IsPlaced measured d n s o) (c : IsCutAround measured d n s o p) where
  around-below : below n (numbers 0 (items_of d))
      ≡ below n (numbers 0 c.left) + (below n (error_scalars s.scalars o.items) + below n (numbers (s.scalars + length (code_points c.here)) c.rest))
  around-below =
      let here = numbers-ended s.bytes s.scalars c.here o.items c.own.items in
      let start : 0 + length (code_points c.left) ≡ s.scalars = omega (arith, c.count) in
      let more = numbers (s.scalars + length (code_points c.here)) c.rest in
      rw (c.split, numbers-append 0 c.left (c.here ++ c.rest), start, numbers-append s.scalars c.here c.rest, here)
      (below-append n (numbers 0 c.left) (error_scalars s.scalars o.items ++ more) ∙ rw (below-append n (error_scalars s.scalars o.items) more) refl)

  pub errors-left : length (numbers 0 c.left) ≡ s.errors
  errors-left = made-errors p.front 0 0 c.left c.before ∙ sym (ap (λ (v : Sum). v.errors) p.sum)

  pub none-behind : measured (joined s o.sum) ≤ n → c.rest ≡ []
  none-behind l = elim p.high [ inl e ↦ subst (AreMade (s.bytes + o.sum.bytes) c.rest) e c.behind | inr g ↦ absurd (omega (arith, l, g)) ]

-- no more code points are before a piece and in it than in the text
pub placed-room : (measured : Sum → ℕ) (d : Pieced) (n : ℕ) (s : Sum) (o : Outcome) → IsPlaced measured d n s o → IsPieced d
    → s.scalars + all_scalars o.items ≤ length (text_of d.doc)
placed-room measured d n s o p w = omega (arith, (cut_around measured d n s o p w).all, counted o)

-- the errors before a code point: those of the pieces before its piece, and some of the piece's own
pub numbers-before : (d : Pieced) (n : ℕ) (s : Sum) (o : Outcome) → (p : IsPlaced (measure Scalar) d n s o) → IsPieced d
    → s.errors + below n (error_scalars s.scalars o.items) ≡ below n (map scalar_of (all_errors d.doc))
numbers-before d n s o p w =
    let c = cut_around (measure Scalar) d n s o p w in
    let behind = s.scalars + length (code_points c.here) in
    let left = below-all n 0 c.left (omega (arith, c.count, p.low)) in
    let none : below n (numbers behind c.rest) ≡ 0 =
    by_le behind n
    (λ l. let past : s.scalars + o.sum.scalars ≤ n = omega (arith, l, piece_count s.bytes c.here o c.own) in
    ap (λ ps. below n (numbers behind ps)) (none-behind (measure Scalar) d n s o p c past))
    (λ l. below-none n behind c.rest (omega (arith, l))) in
    omega (arith, around-below (measure Scalar) d n s o p c, left, errors-left (measure Scalar) d n s o p c, none)

pub numbers-room : (d : Pieced) (n : ℕ) (s : Sum) (o : Outcome) → (p : IsPlaced (measure Scalar) d n s o) → IsPieced d
    → s.errors + below n (error_scalars s.scalars o.items) ≤ length (text_of d.doc)
numbers-room d n s o p w =
    omega (arith, numbers-before d n s o p w, count_by-le-length (λ (x : ℕ). nat_lt x n) (map scalar_of (all_errors d.doc)), numbers-in_text d.doc)

-- the position of an offset within the text
pub position-alone : (text : List ℕ) (unit : TextUnit) (s : ℕ) (p : Position) → Ok p ≡ position_of text unit s → s ≤ length text → p ≡ position text unit s
unfolding position_of
position-alone text unit s p e h =
    let t : nat_le s (length text) ≡ true = grind (arith, nat_tests) in
    same_ok (e ∙ rw t refl)
