-- The items of a document, piece by piece.
use Rattle.std.proofs.Common.{ℕ, ℤ, ◌≡◌, refl, sym, ap, ◌∙◌, ◌+◌, cond, nat_le, pos, ◌+ℤ◌, length-append, append_assoc, option_copied, ◌^◌}
use Rattle.position_map.proofs.Words.{◌-◌, ◌<◌, ◌≤◌, true, false, List, [], ◌∷◌, ◌++◌, length, append-nil, arith, Option, Some, None, Ok, Err, Bor, zero-add}
use Rattle.position_map.proofs.Words.{same_cons, unwrap_or, nat_tests, ints, Placed, item_code_points, code_points, Byte, Ended, Outcome, Sum, total_of}
use Rattle.position_map.proofs.Words.{all_scalars, scalars_before, decoded, text_of, decoded_text, OutOfRange, Point, TextUnit, IsFoundOutcome, AreEnded}
use Rattle.position_map.proofs.Words.{EndWithin, IsMade, AreMade, ends_at, AreAtLeast, scalars_until, scalar_of_byte, IsTextEnd, Pieced, AreAllPieces, by_test}
use lib.Signed.{le_z}
use Rattle.std.proofs.lemmas.Grind.{flat_map-append}

abbrev pub IsPieced : Pieced → Type 0
IsPieced d = AreAllPieces d.doc d.pieces d.tail

abbrev pub items_of : Pieced → List Placed
items_of d = (decoded d.doc).items

pub counted : (o : Outcome) → o.sum.scalars ≡ all_scalars o.items
counted o = o.summed.scalars ∙ o.summed.counted

-- items by themselves
pub count-append : (xs ys : List Placed) → length (code_points (xs ++ ys)) ≡ length (code_points xs) + length (code_points ys)
count-append xs ys = ap length (flat_map-append (λ (p : Placed). item_code_points p.item) xs ys) ∙ length-append (code_points xs) (code_points ys)

until-cons : (at : ℕ) (p : Placed) (ps : List Placed)
    → scalars_until at (p ∷ ps) ≡ cond (nat_le p.to at) (length (item_code_points p.item)) 0 + scalars_until at ps
until-cons at p ps = by_test (nat_le p.to at) (λ t. rw t (length-append (item_code_points p.item) _)) (λ t. rw t (simp zero-add))

until-append : (at : ℕ) (xs ys : List Placed) → scalars_until at (xs ++ ys) ≡ scalars_until at xs + scalars_until at ys
until-append at [] ys = omega arith
until-append at (p ∷ xs) ys = omega (arith, until-cons at p (xs ++ ys), until-cons at p xs, until-append at xs ys)

-- a piece whose items all end before the byte, or all after it
within_all : (at base bytes : ℕ) (ps : List Placed) → EndWithin base bytes ps → base + bytes ≤ at → scalars_until at ps ≡ length (code_points ps)
within_all at base bytes [] w h = refl
within_all at base bytes (p ∷ ps) w h =
    let t : nat_le p.to at ≡ true = grind (arith, nat_tests, w.0) in
    rw (until-cons at p ps, t, within_all at base bytes ps w.2 h) (sym (length-append (item_code_points p.item) (code_points ps)))

within_none : (at base bytes : ℕ) (ps : List Placed) → EndWithin base bytes ps → at + 7 < base → scalars_until at ps ≡ 0
within_none at base bytes [] w h = refl
within_none at base bytes (p ∷ ps) w h =
    let t : nat_le p.to at ≡ false = grind (arith, nat_tests, w.1) in
    rw (until-cons at p ps, t, within_none at base bytes ps w.2 h) refl

ends_before : (at base to : ℕ) (end limit : ℤ) → at < 2 ^ 64 - 1 → to ≡ ends_at base end → pos at ≡ pos base +ℤ limit → le_z end limit ≡ nat_le to at
ends_before at base to end limit s e l =
    by_test (nat_le to at)
    (λ t. let h : to ≤ at = grind (arith, nat_tests) in let y : le_z end limit ≡ true = grind (arith, ints) in y ∙ sym t)
    (λ t. let h : at < to = grind (arith, nat_tests) in let y : le_z end limit ≡ false = grind (arith, ints) in y ∙ sym t)

-- a piece's own count
pub count_is : (at base : ℕ) (limit : ℤ) (ps : List Placed) (es : List Ended) → at < 2 ^ 64 - 1 → AreEnded base ps es
    → pos at ≡ pos base +ℤ limit → scalars_before limit es ≡ scalars_until at ps
count_is at base limit [] [] s w l = refl
count_is at base limit [] (e ∷ es) s w l = absurd w
count_is at base limit (p ∷ ps) [] s w l = absurd w
count_is at base limit (p ∷ ps) (e ∷ es) s w l =
    rw (until-cons at p ps, ends_before at base p.to e.end limit s w.0.end l, w.0.scalars, count_is at base limit ps es s w.1 l) refl

all_are : (base : ℕ) (ps : List Placed) (es : List Ended) → AreEnded base ps es → length (code_points ps) ≡ all_scalars es
all_are base [] [] w = refl
all_are base [] (e ∷ es) w = absurd w
all_are base (p ∷ ps) [] w = absurd w
all_are base (p ∷ ps) (e ∷ es) w = omega (arith, length-append (item_code_points p.item) (code_points ps), w.0.scalars, all_are base ps es w.1)

pub piece_count : (base : ℕ) (ps : List Placed) (o : Outcome) → IsMade base ps o → length (code_points ps) ≡ o.sum.scalars
piece_count base ps o m = all_are base ps o.items m.items ∙ sym (counted o)

-- pieces in a row
pub record Halves (base : ℕ) (ps : List Placed) (ms bs : List Outcome) : Type 0 where
  pub left : List Placed
  pub right : List Placed
  pub split : ps ≡ left ++ right
  pub before : AreMade base left ms
  pub behind : AreMade (base + (total_of ms).bytes) right bs

pub made_split : (ms bs : List Outcome) (base : ℕ) (ps : List Placed) → AreMade base ps (ms ++ bs) → Halves base ps ms bs
made_split [] bs base ps m =
    let e : base + 0 ≡ base = omega arith in record { left = []; right = ps; split = refl; before = refl; behind = rw e m }
made_split (o ∷ ms) bs base ps m =
    let h = made_split ms bs (base + o.sum.bytes) m.1 m.4 in
    let e : base + o.sum.bytes + (total_of ms).bytes ≡ base + (o.sum.bytes + (total_of ms).bytes) = omega arith in
    record {
      left = m.0 ++ h.left;
      right = h.right;
      split = rw (h.split, ← append_assoc m.0 h.left h.right) at m.2;
      before = (m.0, h.left, refl, m.3, h.before);
      behind = rw e at h.behind;
    }

pub made_count : (ms : List Outcome) (base : ℕ) (ps : List Placed) → AreMade base ps ms → length (code_points ps) ≡ (total_of ms).scalars
made_count [] base ps m = ap (λ t. length (code_points t)) m
made_count (o ∷ ms) base ps m =
    omega (arith, ap (λ t. length (code_points t)) m.2, count-append m.0 m.1, piece_count base m.0 o m.3, made_count ms (base + o.sum.bytes) m.1 m.4)

pub made_all : (at : ℕ) (ms : List Outcome) (base : ℕ) (ps : List Placed) → AreMade base ps ms → base + (total_of ms).bytes ≤ at
    → scalars_until at ps ≡ length (code_points ps)
made_all at [] base ps m h = rw m refl
made_all at (o ∷ ms) base ps m h =
    let own = within_all at base o.sum.bytes m.0 m.3.within (omega (arith, h)) in
    let rest = made_all at ms (base + o.sum.bytes) m.1 m.4 (omega (arith, h)) in
    rw m.2 (omega (arith, count-append m.0 m.1, until-append at m.0 m.1, own, rest))

pub made_none : (at : ℕ) (ms : List Outcome) (base : ℕ) (ps : List Placed) → AreMade base ps ms → at + 7 < base → scalars_until at ps ≡ 0
made_none at [] base ps m h = rw m refl
made_none at (o ∷ ms) base ps m h =
    let own = within_none at base o.sum.bytes m.0 m.3.within h in
    let rest = made_none at ms (base + o.sum.bytes) m.1 m.4 (omega (arith, h)) in
    rw m.2 (omega (arith, until-append at m.0 m.1, own, rest))

pub bytes-append : (ms bs : List Outcome) → (total_of (ms ++ bs)).bytes ≡ (total_of ms).bytes + (total_of bs).bytes
bytes-append [] bs = omega arith
bytes-append (o ∷ ms) bs = omega (arith, bytes-append ms bs)

pub scalars-append : (ms bs : List Outcome) → (total_of (ms ++ bs)).scalars ≡ (total_of ms).scalars + (total_of bs).scalars
scalars-append [] bs = omega arith
scalars-append (o ∷ ms) bs = omega (arith, scalars-append ms bs)

pub next_some : (front back f2 b2 : List Outcome) (o : Outcome) (n : ℕ) → front ++ back ≡ f2 ++ o ∷ b2 → AreAtLeast 1 (front ++ back)
    → (total_of front).bytes ≡ n → (total_of f2).bytes ≤ n → n < (total_of f2).bytes + o.sum.bytes → back ≡ o ∷ b2
next_some [] back [] b2 o n e p h l g = e
next_some [] back (b ∷ bs) b2 o n e p h l g = absurd (omega (arith, (rw e at p).0, h, l))
next_some (a ∷ ms) back [] b2 o n e p h l g =
    let same : a.sum.bytes ≡ o.sum.bytes = ap (λ (v : Outcome). v.sum.bytes) (same_cons e).0 in
    absurd (omega (arith, same, h, g))
next_some (a ∷ ms) back (b ∷ bs) b2 o n e p h l g =
    let w = same_cons e in
    let same : a.sum.bytes ≡ b.sum.bytes = ap (λ (v : Outcome). v.sum.bytes) w.0 in
    next_some ms back bs b2 o (n - a.sum.bytes) w.1 p.1 (omega (arith, h)) (omega (arith, h, l, same)) (omega (arith, h, l, g, same))

at_least_behind : (least : ℕ) (front back : List Outcome) → AreAtLeast least (front ++ back) → AreAtLeast least back
at_least_behind least [] back h = h
at_least_behind least (a ∷ ms) back h = at_least_behind least ms back h.1

pub next_none : (front back : List Outcome) (xs : List Outcome) (n : ℕ) → xs ≡ front ++ back → AreAtLeast 1 xs → (total_of front).bytes ≡ n
    → (total_of xs).bytes ≤ n → back ≡ []
next_none front [] xs n e p h l = refl
next_none front (b ∷ bs) xs n e p h l =
    let some = at_least_behind 1 front (b ∷ bs) (rw e at p) in
    absurd (omega (arith, some.0, h, l, ap (λ os. (total_of os).bytes) e, bytes-append front (b ∷ bs)))

-- what follows the next piece ends after the byte
rest_none : (at base : ℕ) (d : Pieced) (front back rest : List Outcome) (o next : Outcome) (ps : List Placed)
    → d.pieces ≡ front ++ o ∷ back → (1 < length d.pieces → AreAtLeast 512 d.pieces)
    → back ++ d.tail ∷ [] ≡ next ∷ rest → at < base → AreMade (base + next.sum.bytes) ps rest → scalars_until at ps ≡ 0
rest_none at base d front back [] o next ps split long e h m = rw m refl
rest_none at base d front [] (r ∷ rs) o next ps split long e h m = absurd (omega (arith, ap length (same_cons e).1))
rest_none at base d front (b ∷ bs) (r ∷ rs) o next ps split long e h m =
    let two : 1 < length d.pieces = omega (arith, ap length split, length-append front (o ∷ b ∷ bs)) in
    let here = at_least_behind 512 front (o ∷ b ∷ bs) (rw split at (long two)) in
    let same : b.sum.bytes ≡ next.sum.bytes = ap (λ (v : Outcome). v.sum.bytes) (same_cons e).0 in
    made_none at (r ∷ rs) (base + next.sum.bytes) ps m (omega (arith, here.1.0, same, h))

-- the code points of the items that end at or before a byte in a piece. They are those of the pieces before it, and of some items of the piece and of
-- the next one
pub until_is : (d : Pieced) (at : ℕ) (s : Sum) (o next : Outcome) (rest : List Outcome) (l1 l2 : ℤ) → IsPieced d
    → (f : IsFoundOutcome Byte at d.pieces s (Some o)) → f.back ++ d.tail ∷ [] ≡ next ∷ rest
    → pos at ≡ pos s.bytes +ℤ l1 → pos at ≡ pos (s.bytes + o.sum.bytes) +ℤ l2 → at < 2 ^ 64 - 1
    → scalars_until at (items_of d) ≡ s.scalars + scalars_before l1 o.items + scalars_before l2 next.items
until_is d at s o next rest l1 l2 w f e x y small =
    let sb : s.bytes ≡ (total_of f.front).bytes = ap (λ (v : Sum). v.bytes) f.sum in
    let ss : s.scalars ≡ (total_of f.front).scalars = ap (λ (v : Sum). v.scalars) f.sum in
    let made : AreMade 0 (items_of d) (f.front ++ (o ∷ next ∷ rest)) = rw (f.split, append_assoc f.front (o ∷ f.back) (d.tail ∷ []), e) at w.made in
    let h = made_split f.front (o ∷ next ∷ rest) 0 (items_of d) made in
    let base : 0 + (total_of f.front).bytes ≡ s.bytes = omega (arith, sb) in
    let m : AreMade s.bytes h.right (o ∷ next ∷ rest) = rw base at h.behind in
    let front_all = made_all at f.front 0 h.left h.before (omega (arith, sb, f.low)) in
    let front_count = made_count f.front 0 h.left h.before in
    let here = count_is at s.bytes l1 m.0 o.items small m.3.items x in
    let after = m.4 in
    let ahead = count_is at (s.bytes + o.sum.bytes) l2 after.0 next.items small after.3.items y in
    let none = rest_none at (s.bytes + o.sum.bytes) d f.front f.back rest o next after.1 f.split w.long e f.high after.4 in
    rw (h.split, until-append at h.left h.right, m.2, until-append at m.0 m.1, after.2, until-append at after.0 after.1)
    (omega (arith, front_all, front_count, here, ahead, none, ss))

-- at the end of the bytes it is all code points
all_until : (d : Pieced) (at : ℕ) → IsPieced d → at ≡ length d.doc.bytes → scalars_until at (items_of d) ≡ length (text_of d.doc)
unfolding decoded_text
all_until d at w e = made_all at (d.pieces ++ d.tail ∷ []) 0 (items_of d) w.made (omega (arith, bytes-append d.pieces (d.tail ∷ []), w.bytes, w.no_bytes, e))

until_le : (at : ℕ) (ps : List Placed) → scalars_until at ps ≤ length (code_points ps)
until_le at [] = omega arith
until_le at (p ∷ ps) =
    let le : cond (nat_le p.to at) (length (item_code_points p.item)) 0 ≤ length (item_code_points p.item) = grind (arith, nat_tests) in
    omega (arith, until-cons at p ps, until_le at ps, length-append (item_code_points p.item) (code_points ps), le)

-- no more code points end before a byte than there are
until_text : (d : Pieced) (at : ℕ) → scalars_until at (items_of d) ≤ length (text_of d.doc)
unfolding decoded_text
until_text d at = until_le at (items_of d)

-- the piece that begins where those before it end, or the tail
pub next_by : (d : Pieced) (start : ℕ) (s : Sum) (r : Option (Bor Outcome)) (b h : Bor Outcome) → IsPieced d
    → IsFoundOutcome Byte start d.pieces s (option_copied r) → b.now ≡ d.tail → h ≡ unwrap_or r b
    → (front back : List Outcome) → d.pieces ≡ front ++ back → (total_of front).bytes ≡ start → (rest : List Outcome) × (back ++ d.tail ∷ [] ≡ h.now ∷ rest)
next_by d start s None b h w f last same front back e at =
    let all : d.pieces ≡ f.front = rw (f.ends refl, append-nil) at f.split in
    let sb : s.bytes ≡ (total_of d.pieces).bytes = ap (λ (v : Sum). v.bytes) f.sum ∙ ap (λ os. (total_of os).bytes) (sym all) in
    let none : back ≡ [] = next_none front back d.pieces start e w.some at (omega (arith, sb, f.low)) in
    ([], rw (none, same, last) refl)
next_by d start s (Some o) b h w f last same front back e at =
    let sb : s.bytes ≡ (total_of f.front).bytes = ap (λ (v : Sum). v.bytes) f.sum in
    let heads = next_some front back f.front f.back o.now start (sym e ∙ f.split) (rw e at w.some) at (omega (arith, sb, f.low)) (omega (arith, sb, f.high)) in
    (f.back ++ d.tail ∷ [], rw (heads, same) refl)

-- a piece lies within the bytes
pub piece_room : (d : Pieced) (at : ℕ) (s : Sum) (o : Outcome) → IsPieced d → IsFoundOutcome Byte at d.pieces s (Some o)
    → s.bytes + o.sum.bytes ≤ length d.doc.bytes
piece_room d at s o w f = omega (arith, ap (λ (v : Sum). v.bytes) f.sum, ap (λ os. (total_of os).bytes) f.split, bytes-append f.front (o ∷ f.back), w.bytes)

abbrev pub IsNext : Pieced → ℕ → Outcome → Type 0
IsNext d start next = (front back : List Outcome) → d.pieces ≡ front ++ back → (total_of front).bytes ≡ start → (rest : List Outcome)
    × (back ++ d.tail ∷ [] ≡ next ∷ rest)

-- the three counts of a byte in a piece
pub record IsCounted (d : Pieced) (at : ℕ) (s : Sum) (a b : ℕ) : Type 0 where
  pub is : s.scalars + a + b ≡ scalars_until at (items_of d)
  pub few : s.scalars + a + b ≤ length (text_of d.doc)

pub counts_are : (d : Pieced) (at : ℕ) (s : Sum) (o next : Outcome) (l1 l2 : ℤ) (a b : ℕ) → IsPieced d
    → IsFoundOutcome Byte at d.pieces s (Some o) → IsNext d (s.bytes + o.sum.bytes) next
    → a ≡ scalars_before l1 o.items → b ≡ scalars_before l2 next.items → pos at ≡ pos s.bytes +ℤ l1
    → pos at ≡ pos (s.bytes + o.sum.bytes) +ℤ l2 → length d.doc.bytes < 2 ^ 64 → IsCounted d at s a b
counts_are d at s o next l1 l2 a b w f n ea eb x y fits =
    let small : at < 2 ^ 64 - 1 = omega (arith, f.high, fits, piece_room d at s o w f) in
    let start : (total_of (f.front ++ o ∷ [])).bytes ≡ s.bytes + o.sum.bytes = omega (arith, bytes-append f.front (o ∷ []), ap (λ (v : Sum). v.bytes) f.sum) in
    let next_is = n (f.front ++ o ∷ []) f.back (f.split ∙ sym (append_assoc f.front (o ∷ []) f.back)) start in
    let count = until_is d at s o next next_is.0 l1 l2 w f next_is.1 x y small in
    record { is = omega (arith, ea, eb, count); few = omega (arith, ea, eb, count, until_text d at) }

pub within_bytes : (d : Pieced) (at v : ℕ) → at ≤ length d.doc.bytes → v ≡ scalars_until at (items_of d)
    → Ok v ≡ scalar_of_byte (length d.doc.bytes) (items_of d) at
unfolding scalar_of_byte
within_bytes d at v h e =
    let t : nat_le at (length d.doc.bytes) ≡ true = grind (arith, nat_tests) in
    rw (t, e) refl

pub scalar_at_end : (u : TextUnit) (d : Pieced) (at : ℕ) (s : Sum) (r : Option (Bor Outcome)) (e : Point) → IsPieced d → r ≡ None
    → IsFoundOutcome Byte at d.pieces s (option_copied r) → at ≤ length d.doc.bytes → IsTextEnd u (text_of d.doc) e
    → Ok e.scalars ≡ scalar_of_byte (length d.doc.bytes) (items_of d) at
scalar_at_end u d at s r e w is g h end =
    let f : IsFoundOutcome Byte at d.pieces s None = rw is at g in
    let all : d.pieces ≡ f.front = rw (f.ends refl, append-nil) at f.split in
    let sb : s.bytes ≡ (total_of d.pieces).bytes = ap (λ (v : Sum). v.bytes) f.sum ∙ ap (λ os. (total_of os).bytes) (sym all) in
    let last : at ≡ length d.doc.bytes = omega (arith, sb, w.bytes, f.low, h) in
    within_bytes d at e.scalars h (end.scalars ∙ sym (all_until d at w last))

pub scalar_past : (d : Pieced) (at : ℕ) → length d.doc.bytes < at → Err OutOfRange ≡ scalar_of_byte (length d.doc.bytes) (items_of d) at
unfolding scalar_of_byte
scalar_past d at h =
    let t : nat_le at (length d.doc.bytes) ≡ false = grind (arith, nat_tests) in
    rw t refl
