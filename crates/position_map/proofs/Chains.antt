-- Places of items in a row.
use Rattle.std.proofs.Common.{ℕ, ◌≡◌, refl, sym, ap, ◌∙◌, zero, suc, ◌+◌, ◌-◌, ◌<◌, ◌≤◌, true, false, nat_lt, pos, List, [], ◌∷◌, ◌++◌, length}
use Rattle.std.proofs.Common.{length-append, append_assoc, append-nil, arith, Option, Some, None, Bor, option_copied, get_or, inl, inr}
use Rattle.position_map.proofs.Words.{nil_from_length, unary_clauses, by_le, map_some, map_none, same_cons, IsMade, text_of, decoded_text, option_map}
use Rattle.position_map.proofs.Words.{unwrap_or, nat_tests, Item, One, Two, Error, Placed, item_code_points, code_points, Ascii, Scalar, measure, Ended}
use Rattle.position_map.proofs.Words.{Outcome, Sum, total_of, all_scalars, item_of, IsFoundBy, IsFoundOutcome, IsEnded, AreEnded, AreMade, ends_at, place_of}
use Rattle.position_map.proofs.Words.{bom_of, ChainLaws, last_to, HasItem, IsPlaced, Pieced, same_some, none_some}
use Rattle.position_map.proofs.Items.{IsPieced, items_of, counted, made_split, made_count, scalars-append}

no_item : Ended
no_item = record { scalars = 0; end = pos 0; error = false; output = Ascii }

-- an item has a code point
pub item_some : (i : Item) → 1 ≤ length (item_code_points i)
item_some (One c) = omega arith
item_some (Two a b) = omega arith
item_some Error = omega arith

no_items : (ps : List Placed) → length (code_points ps) ≡ 0 → ps ≡ []
no_items [] e = refl
no_items (p ∷ ps) e = absurd (omega (arith, e, item_some p.item, length-append (item_code_points p.item) (code_points ps)))

pub place-append : (xs ys : List Placed) (n : ℕ) → length (code_points xs) ≤ n → place_of (xs ++ ys) n ≡ place_of ys (n - length (code_points xs))
place-append [] ys n h = ap (place_of ys) (omega arith)
place-append (p ∷ xs) ys n h =
    let l = length-append (item_code_points p.item) (code_points xs) in
    let t : nat_lt n (length (item_code_points p.item)) ≡ false = grind (arith, nat_tests, l, h) in
    rw t (place-append xs ys (n - length (item_code_points p.item)) (omega (arith, l, h)) ∙ ap (place_of ys) (omega (arith, l, h)))

has_first : (base : ℕ) (p : Placed) (ps : List Placed) (e : Ended) (es : List Ended) (n : ℕ) → AreEnded base (p ∷ ps) (e ∷ es)
    → n < e.scalars → HasItem base (p ∷ ps) (e ∷ es) n 0
has_first base p ps e es n w h = record {
  front = [];
  item = p;
  back = ps;
  split = refl;
  len = refl;
  within = omega arith;
  ended = λ d. w.0;
  last = λ d from l. absurd (omega arith);
  place = λ more. let t : nat_lt n (length (item_code_points p.item)) ≡ true = grind (arith, nat_tests, w.0.scalars) in rw t refl;
}

last_more : (base : ℕ) (p : Placed) (front : List Placed) (e : Ended) (es : List Ended) (j : ℕ) (d : Ended) (from : ℕ) → IsEnded base p e
    → length front ≡ j → ((d : Ended) (from : ℕ) → 0 < j → last_to from front ≡ ends_at base (get_or es (j - 1) d).end)
    → last_to from (p ∷ front) ≡ ends_at base (get_or (e ∷ es) (suc j - 1) d).end
last_more base p [] e es zero d from w l h = w.end
last_more base p (q ∷ front) e es zero d from w l h = absurd (omega (arith, l))
last_more base p front e es (suc j) d from w l h = let r = h d p.to (omega arith) in simp unary_clauses (simp unary_clauses at r)

has_next : (base : ℕ) (p : Placed) (ps : List Placed) (e : Ended) (es : List Ended) (n j : ℕ) → IsEnded base p e → e.scalars ≤ n
    → HasItem base ps es (n - e.scalars) j → HasItem base (p ∷ ps) (e ∷ es) n (suc j)
has_next base p ps e es n j w h g = record {
  front = p ∷ g.front;
  item = g.item;
  back = g.back;
  split = rw g.split refl;
  len = ap suc g.len;
  within = omega (arith, g.within);
  ended = g.ended;
  last = λ d from l. last_more base p g.front e es j d from w g.len g.last;
  place = λ more.
      let t : nat_lt n (length (item_code_points p.item)) ≡ false = grind (arith, nat_tests, w.scalars) in
      rw (t, ← w.scalars) (g.place more);
}

pub item-here : (e : Ended) (es : List Ended) (n : ℕ) → n < e.scalars → item_of (e ∷ es) n ≡ Some 0
item-here e es n h = let t : nat_lt n e.scalars ≡ true = grind (arith, nat_tests) in rw t refl

pub item-later : (e : Ended) (es : List Ended) (n : ℕ) → e.scalars ≤ n → item_of (e ∷ es) n ≡ option_map (λ k. k + 1) (item_of es (n - e.scalars))
item-later e es n h = let t : nat_lt n e.scalars ≡ false = grind (arith, nat_tests) in rw t refl

-- how many items are before it
pub item-next : (e : Ended) (es : List Ended) (n k : ℕ) → e.scalars ≤ n → item_of (e ∷ es) n ≡ Some k
    → (j : ℕ) × (item_of es (n - e.scalars) ≡ Some j) × (j + 1 ≡ k)
item-next e es n k le h = map_some (λ j. j + 1) (item_of es (n - e.scalars)) k (sym (item-later e es n le) ∙ h)

pub has_item : (base : ℕ) (ps : List Placed) (es : List Ended) (n k : ℕ) → AreEnded base ps es → item_of es n ≡ Some k → HasItem base ps es n k
has_item base [] [] n k w e = absurd (none_some e)
has_item base [] (e ∷ es) n k w h = absurd w
has_item base (p ∷ ps) [] n k w h = absurd w
has_item base (p ∷ ps) (e ∷ es) n k w h =
    by_le e.scalars n
    (λ le. let more = item-next e es n k le h in
    let same : k ≡ suc more.0 = omega (arith, more.2) in
    rw same (has_next base p ps e es n more.0 w.0 le (has_item base ps es (n - e.scalars) more.0 w.1 more.1)))
    (λ lt. let first : k ≡ 0 = same_some (sym h ∙ item-here e es n lt) in rw first (has_first base p ps e es n w lt))

-- no item has it
pub lacks_item : (es : List Ended) (n : ℕ) → item_of es n ≡ None → all_scalars es ≤ n
lacks_item [] n h = omega arith
lacks_item (e ∷ es) n h =
    by_le e.scalars n
    (λ le. omega (arith, lacks_item es (n - e.scalars) (map_none (λ j. j + 1) (item_of es (n - e.scalars)) (sym (item-later e es n le) ∙ h)), le))
    (λ lt. absurd (none_some (sym h ∙ item-here e es n lt)))

-- where the last item of a piece ends
pub last_of : (base : ℕ) (ps : List Placed) (es : List Ended) (d : Ended) (from : ℕ) → AreEnded base ps es → 0 < length es
    → last_to from ps ≡ ends_at base (get_or es (length es - 1) d).end
last_of base ps [] d from w l = absurd (omega arith)
last_of base [] (e ∷ es) d from w l = absurd w
last_of base (p ∷ []) (e ∷ []) d from w l = w.0.end
last_of base (p ∷ q ∷ ps) (e ∷ []) d from w l = absurd w.1
last_of base (p ∷ []) (e ∷ g ∷ es) d from w l = absurd w.1
last_of base (p ∷ q ∷ ps) (e ∷ g ∷ es) d from w l =
    let r = last_of base (q ∷ ps) (g ∷ es) d p.to w.1 (omega arith) in simp unary_clauses (simp unary_clauses at r)

-- the piece that has the last code point of those before
pub prev_some : (front back f2 b2 : List Outcome) (o : Outcome) (n : ℕ) → front ++ back ≡ f2 ++ o ∷ b2 → (total_of front).scalars ≡ n
    → 0 < n → (total_of f2).scalars ≤ n - 1 → n - 1 < (total_of f2).scalars + o.sum.scalars
    → (mid : List Outcome) × (front ≡ f2 ++ o ∷ mid) × ((total_of mid).scalars ≡ 0)
prev_some [] back f2 b2 o n e h z l g = absurd (omega (arith, h))
prev_some (a ∷ as2) back [] b2 o n e h z l g =
    let w = same_cons e in
    let same : a.sum.scalars ≡ o.sum.scalars = ap (λ (v : Outcome). v.sum.scalars) w.0 in
    (as2, ap (λ (v : Outcome). v ∷ as2) w.0, omega (arith, h, g, same))
prev_some (a ∷ as2) back (b ∷ bs) b2 o n e h z l g =
    let w = same_cons e in
    let same : a.sum.scalars ≡ b.sum.scalars = ap (λ (v : Outcome). v.sum.scalars) w.0 in
    let r = prev_some as2 back bs b2 o (n - a.sum.scalars) w.1 (omega (arith, h)) (omega (arith, h, l, z, same))
    (omega (arith, h, l, same)) (omega (arith, h, l, g, same)) in
    (r.0, ap (λ (v : Outcome). v ∷ as2) w.0 ∙ ap (λ t. b ∷ t) r.1, r.2)

some_items : (es : List Ended) → 0 < all_scalars es → 0 < length es
some_items [] h = absurd (omega arith)
some_items (e ∷ es) h = omega arith

-- where the items before a piece end
pub last_before : ChainLaws → (front f2 mid : List Outcome) (o : Outcome) (ps : List Placed) (d : Ended) (from : ℕ) → front ≡ f2 ++ o ∷ mid
    → (total_of mid).scalars ≡ 0 → 0 < o.sum.scalars → AreMade 0 ps front
    → last_to from ps ≡ ends_at (total_of f2).bytes (get_or o.items (length o.items - 1) d).end
last_before laws front f2 mid o ps d from e z some m =
    let h = made_split f2 (o ∷ mid) 0 ps (rw e at m) in
    let r = h.behind in
    let base : 0 + (total_of f2).bytes ≡ (total_of f2).bytes = omega arith in
    let none : r.1 ≡ [] = no_items r.1 (made_count mid (0 + (total_of f2).bytes + o.sum.bytes) r.1 r.4 ∙ z) in
    let many : 0 < length o.items = some_items o.items (omega (arith, some, counted o)) in
    let all : ps ≡ h.left ++ r.0 = h.split ∙ ap (λ t. h.left ++ t) (rw (none, append-nil) at r.2) in
    ap (last_to from) all ∙ laws.last from h.left r.0
    ∙ rw base at (last_of (0 + (total_of f2).bytes) r.0 o.items d (last_to from h.left) r.3.items many)

pub no_scalars : (front : List Outcome) (ps : List Placed) (from : ℕ) → AreMade 0 ps front → (total_of front).scalars ≡ 0 → last_to from ps ≡ from
no_scalars front ps from m z = ap (last_to from) (no_items ps (made_count front 0 ps m ∙ z))

-- after all items
place_past : (ps : List Placed) (n : ℕ) → length (code_points ps) ≤ n → place_of ps n ≡ None
place_past ps n h = ap (λ t. place_of t n) (sym (append-nil ps)) ∙ place-append ps [] n h

-- the piece in which a code point is sought, among the pieces
pub record IsCutAround (measured : Sum → ℕ) (d : Pieced) (n : ℕ) (s : Sum) (o : Outcome) (p : IsPlaced measured d n s o) : Type 0 where
  pub left : List Placed
  pub here : List Placed
  pub rest : List Placed
  pub split : items_of d ≡ left ++ (here ++ rest)
  pub before : AreMade 0 left p.front
  pub own : IsMade s.bytes here o
  pub behind : AreMade (s.bytes + o.sum.bytes) rest p.back
  pub count : length (code_points left) ≡ s.scalars
  pub all : length (text_of d.doc) ≡ s.scalars + o.sum.scalars + (total_of p.back).scalars

pub cut_around : (measured : Sum → ℕ) (d : Pieced) (n : ℕ) (s : Sum) (o : Outcome) (p : IsPlaced measured d n s o) → IsPieced d → IsCutAround measured d n s o p
unfolding decoded_text
cut_around measured d n s o p w =
    let made : AreMade 0 (items_of d) (p.front ++ o ∷ p.back) = rw p.split at w.made in
    let h = made_split p.front (o ∷ p.back) 0 (items_of d) made in
    let base : 0 + (total_of p.front).bytes ≡ s.bytes = omega (arith, ap (λ (v : Sum). v.bytes) p.sum) in
    let m : AreMade s.bytes h.right (o ∷ p.back) = rw base at h.behind in
    record {
      left = h.left;
      here = m.0;
      rest = m.1;
      split = rw m.2 at h.split;
      before = h.before;
      own = m.3;
      behind = m.4;
      count = made_count p.front 0 h.left h.before ∙ sym (ap (λ (v : Sum). v.scalars) p.sum);
      all = omega (arith, made_count (p.front ++ o ∷ p.back) 0 (items_of d) made, scalars-append p.front (o ∷ p.back), ap (λ (v : Sum). v.scalars) p.sum);
    }

pub place_some : ChainLaws → (d : Pieced) (n k from to : ℕ) (s : Sum) (o : Outcome) (p : IsPlaced (measure Scalar) d n s o) → IsPieced d
    → item_of o.items (n - s.scalars) ≡ Some k → ((e : Ended) → to ≡ ends_at s.bytes (get_or o.items k e).end)
    → ((front back : List Outcome) (left ps : List Placed) (m : ℕ) → d.pieces ≡ front ++ back → s ≡ total_of front → AreMade 0 left front
    → (h : HasItem s.bytes ps o.items m k) → from ≡ last_to (bom_of d) (left ++ h.front)) → Some (record { from = from; to = to }) ≡ place_of (items_of d) n
place_some laws d n k from to s o p w i x y =
    let c = cut_around (measure Scalar) d n s o p w in
    let g = has_item s.bytes c.here o.items (n - s.scalars) k c.own.items i in
    let all : items_of d ≡ (c.left ++ g.front) ++ g.item ∷ (g.back ++ c.rest) =
    rw (g.split, append_assoc g.front (g.item ∷ g.back) c.rest, ← append_assoc c.left g.front (g.item ∷ (g.back ++ c.rest))) at c.split in
    let to_is : to ≡ g.item.to = x no_item ∙ sym (g.ended no_item).end in
    let from_is : from ≡ g.item.from = y p.front p.pieces c.left c.here (n - s.scalars) p.cut p.sum c.before g
    ∙ sym (laws.parts (bom_of d) (c.left ++ g.front) (g.item ∷ (g.back ++ c.rest)) (rw all at (laws.items d.doc))).1.0 in
    rw (from_is, to_is, c.split, place-append c.left (c.here ++ c.rest) n (omega (arith, c.count, p.low)), c.count) (sym (g.place c.rest))

pub place_none : (d : Pieced) (n : ℕ) (s : Sum) (o : Outcome) (p : IsPlaced (measure Scalar) d n s o) → IsPieced d
    → item_of o.items (n - s.scalars) ≡ None → None ≡ place_of (items_of d) n
unfolding decoded_text
place_none d n s o p w i =
    let few = lacks_item o.items (n - s.scalars) i in
    let c = cut_around (measure Scalar) d n s o p w in
    elim p.high [
      | inl e ↦ let none : (total_of p.back).scalars ≡ 0 = rw e refl in sym (place_past (items_of d) n (omega (arith, c.all, none, few, counted o, p.low)))
      | inr g ↦ absurd (omega (arith, g, few, counted o, p.low))
    ]

-- what a search finds, or the tail
pub placed_by : (measured : Sum → ℕ) (d : Pieced) (n : ℕ) (s : Sum) (r : Option (Bor Outcome)) (b h : Bor Outcome)
    → IsFoundBy measured n d.pieces s (option_copied r) → b.now ≡ d.tail → h ≡ unwrap_or r b → IsPlaced measured d n s h.now
placed_by measured d n s None b h g tail same =
    let all : d.pieces ≡ g.front = rw (g.ends refl, append-nil) at g.split in
    rw (same, tail) (record {
      front = g.front;
      pieces = [];
      back = [];
      cut = rw append-nil all;
      split = rw all refl;
      sum = g.sum;
      low = g.low;
      high = inl refl;
    })
placed_by measured d n s (Some o) b h g tail same =
    rw same (record {
      front = g.front;
      pieces = o.now ∷ g.back;
      back = g.back ++ d.tail ∷ [];
      cut = g.split;
      split = rw g.split (append_assoc g.front (o.now ∷ g.back) (d.tail ∷ []));
      sum = g.sum;
      low = g.low;
      high = inr g.high;
    })

-- where the items before a piece end, as a search finds it
pub last_found : ChainLaws → (d : Pieced) (count : ℕ) (s : Sum) (r : Option (Bor Outcome)) (b : Bor Outcome) (v : ℕ) → r ≡ Some b → 0 < count
    → IsFoundOutcome Scalar (count - 1) d.pieces s (option_copied r)
    → ((e : Ended) → 0 < length b.now.items → v ≡ ends_at s.bytes (get_or b.now.items (length b.now.items - 1) e).end)
    → (front back : List Outcome) (ps : List Placed) → d.pieces ≡ front ++ back → (total_of front).scalars ≡ count → AreMade 0 ps front
    → v ≡ last_to (bom_of d) ps
last_found laws d count s r b v is some f x front back ps e h m =
    let g = rw is at f in
    let both : front ++ back ≡ g.front ++ b.now ∷ g.back = sym e ∙ g.split in
    let ss : s.scalars ≡ (total_of g.front).scalars = ap (λ (w : Sum). w.scalars) g.sum in
    let w = prev_some front back g.front g.back b.now count both h some (omega (arith, ss, g.low)) (omega (arith, ss, g.high)) in
    let here : 0 < b.now.sum.scalars = omega (arith, ss, g.low, g.high) in
    let base : s.bytes ≡ (total_of g.front).bytes = ap (λ (w2 : Sum). w2.bytes) g.sum in
    x no_item (some_items b.now.items (omega (arith, here, counted b.now)))
    ∙ rw base (sym (last_before laws front g.front w.0 b.now ps no_item (bom_of d) w.1 w.2 here m))

-- a search for a code point that is there finds a piece
pub last_not_found : (d : Pieced) (count : ℕ) (s : Sum) (r : Option (Bor Outcome)) → r ≡ None → 0 < count
    → IsFoundOutcome Scalar (count - 1) d.pieces s (option_copied r)
    → (front back : List Outcome) → d.pieces ≡ front ++ back → (total_of front).scalars ≡ count → ⊥
last_not_found d count s r is some f front back e h =
    let g = rw is at f in
    let all : g.front ≡ front ++ back = sym (rw (g.ends refl, append-nil) at g.split) ∙ e in
    omega (arith, ap (λ (w : Sum). w.scalars) g.sum, ap (λ t. (total_of t).scalars) all, scalars-append front back, g.low, h, some)

pub first_item : (d : Pieced) (s : Sum) (o : Outcome) (v : ℕ)
    → ((front back : List Outcome) (ps : List Placed) → d.pieces ≡ front ++ back → (total_of front).scalars ≡ s.scalars
    → AreMade 0 ps front → v ≡ last_to (bom_of d) ps)
    → (front back : List Outcome) (left ps : List Placed) (n k : ℕ) → k ≡ 0 → d.pieces ≡ front ++ back → s ≡ total_of front
    → AreMade 0 left front → (h : HasItem s.bytes ps o.items n k) → v ≡ last_to (bom_of d) (left ++ h.front)
first_item d s o v x front back left ps n k z e t m h =
    rw (nil_from_length h.front (h.len ∙ z), append-nil left) (x front back left e (sym (ap (λ (w : Sum). w.scalars) t)) m)

pub later_item : ChainLaws → (d : Pieced) (s : Sum) (o : Outcome) (v k : ℕ) → 0 < k → ((e : Ended) → v ≡ ends_at s.bytes (get_or o.items (k - 1) e).end)
    → (left ps : List Placed) (n : ℕ) (h : HasItem s.bytes ps o.items n k) → v ≡ last_to (bom_of d) (left ++ h.front)
later_item laws d s o v k l x left ps n h = x no_item ∙ sym (laws.last (bom_of d) left h.front ∙ h.last no_item (last_to (bom_of d) left) l)
