-- Searches go on in one part of a list.
use Rattle.std.proofs.Common.{◌≡◌, ℕ, ◌+◌, ◌<◌, ◌≤◌, List, [], ◌∷◌, ◌++◌, length, ap, sym, ◌∙◌, subst, refl, arith, length-append, append_assoc, append-nil}
use Rattle.sum_tree.specs.{Sums.MonoidLaws, Sums.total, Row.Row, Opened.IsThree, Reached.IsReachable, Reached.IsTargetAmong, Reached.IsElement}
use Rattle.sum_tree.{specs.Reached.IsPrefix, specs.Reached.IsWayTo, proofs.Totals.total-append}

-- the sum in front and that of two lists
past_both : {T S : Type 0} {unit : S} {op : S → S → S} (laws : MonoidLaws unit op) (sum_of : T → S) (before : S) (a b : List T) (m : S)
    → m ≡ op before (total unit op sum_of a) → op before (total unit op sum_of (a ++ b)) ≡ op m (total unit op sum_of b)
past_both {unit = unit} {op = op} laws sum_of before a b m e =
    let joined = total-append laws sum_of a b in
    let grouped = laws.assoc before (total unit op sum_of a) (total unit op sum_of b) in
    cc

module _ {T S : Type 0} {unit : S} {op : S → S → S} (laws : MonoidLaws unit op) {sum_of : T → S} where
  module _ {fits : S → Type 0} {before : S} (r a b : List T) (e : r ≡ a ++ b) (h : IsReachable fits unit op sum_of before r) where
    pub reach_back : {m : S} → m ≡ op before (total unit op sum_of a) → IsReachable fits unit op sum_of m b
    reach_back p = record { fit = subst fits (ap (λ l. op before (total unit op sum_of l)) e ∙ past_both laws sum_of before a b _ p) h.fit }

    pub reach_front : ((a b : S) → fits (op a b) → fits a) → IsReachable fits unit op sum_of before a
    reach_front left = record { fit = left _ _ (reach_back refl).fit }

  pub prefix_leaf : (before : S) (xs : List T) (i : ℕ) → length xs ≡ 1 → i < length xs → IsPrefix unit op sum_of before xs i before
  prefix_leaf before xs i n h = record { front = []; back = xs; split = refl; place = omega arith; sum = sym (laws.right_unit before) }

  pub prefix_front : {before s : S} (r a b : List T) {i : ℕ} → r ≡ a ++ b → IsPrefix unit op sum_of before a i s → IsPrefix unit op sum_of before r i s
  prefix_front r a b e h = record {
    front = h.front;
    back = h.back ++ b;
    split = e ∙ ap (λ l. l ++ b) h.split ∙ append_assoc h.front h.back b;
    place = h.place;
    sum = h.sum;
  }

  pub prefix_back : {before m s : S} (r a b : List T) (i : ℕ) {j : ℕ} → r ≡ a ++ b → IsPrefix unit op sum_of m b j s
      → m ≡ op before (total unit op sum_of a) → length a + j ≡ i → IsPrefix unit op sum_of before r i s
  prefix_back {before} {m} r a b i e h p n = record {
    front = a ++ h.front;
    back = h.back;
    split = e ∙ ap (λ l. a ++ l) h.split ∙ sym (append_assoc a h.front h.back);
    place = omega (arith, length-append a h.front);
    sum = h.sum ∙ sym (past_both laws sum_of before a h.front m p);
  }

  -- into the second and the third of three children
  module _ {r a b c : Row T} (t : IsThree r a b c) {before : S} where
    pub reach_middle : {fits : S → Type 0} {m : S} → IsReachable fits unit op sum_of before r.items → m ≡ op before (total unit op sum_of a.items)
        → ((a b : S) → fits (op a b) → fits a) → IsReachable fits unit op sum_of m b.items
    reach_middle h p = reach_front (b.items ++ c.items) b.items c.items refl (reach_back r.items a.items (b.items ++ c.items) t.items h p)

    pub reach_last : {fits : S → Type 0} {m s : S} → IsReachable fits unit op sum_of before r.items → m ≡ op before (total unit op sum_of a.items)
        → s ≡ op m (total unit op sum_of b.items) → IsReachable fits unit op sum_of s c.items
    reach_last h p = reach_back (b.items ++ c.items) b.items c.items refl (reach_back r.items a.items (b.items ++ c.items) t.items h p)

    pub prefix_middle : {m s : S} {j : ℕ} (i : ℕ) → IsPrefix unit op sum_of m b.items j s → m ≡ op before (total unit op sum_of a.items)
        → length a.items + j ≡ i → IsPrefix unit op sum_of before r.items i s
    prefix_middle i h = prefix_back r.items a.items (b.items ++ c.items) i t.items (prefix_front (b.items ++ c.items) b.items c.items refl h)

    pub prefix_last : {m n s : S} {k : ℕ} (i j : ℕ) → IsPrefix unit op sum_of n c.items k s → n ≡ op m (total unit op sum_of b.items)
        → length b.items + k ≡ j → m ≡ op before (total unit op sum_of a.items) → length a.items + j ≡ i → IsPrefix unit op sum_of before r.items i s
    prefix_last i j h q w = prefix_back r.items a.items (b.items ++ c.items) i t.items (prefix_back (b.items ++ c.items) b.items c.items j refl h q w)

  module _ {fits : S → Type 0} {measure : S → ℕ} {target : ℕ} where
    -- into a first part that contains the target, one whose end it precedes, and a last part whose start it follows
    pub into_front : {before : S} (r a b : List T) → r ≡ a ++ b → IsReachable fits unit op sum_of before a
        → IsTargetAmong measure target unit op sum_of before a → IsWayTo fits measure target unit op sum_of before r 0 before a
    into_front {before} r a b e fit sought =
        record { front = []; back = b; split = e; place = refl; sum = sym (laws.right_unit before); fit = fit; sought = sought }

    pub into_first : {before : S} (r a b : List T) {n : ℕ} → IsReachable fits unit op sum_of before r → IsTargetAmong measure target unit op sum_of before r
        → r ≡ a ++ b → n ≡ measure (op before (total unit op sum_of a)) → target < n
        → ((a b : S) → fits (op a b) → fits a) → IsWayTo fits measure target unit op sum_of before r 0 before a
    into_first r a b fit sought e q h left = into_front r a b e (reach_front r a b e fit left) (record { low = sought.low; high = omega arith })

    pub into_last : {before m : S} (r a b : List T) {n k : ℕ} → IsReachable fits unit op sum_of before r → IsTargetAmong measure target unit op sum_of before r
        → r ≡ a ++ b → m ≡ op before (total unit op sum_of a) → n ≡ measure (op before (total unit op sum_of a)) → n ≤ target → k ≡ length a
        → IsWayTo fits measure target unit op sum_of before r k m b
    into_last {before} {m} r a b fit sought e p q h l =
        let start = ap measure p in
        let end = ap measure (ap (λ l. op before (total unit op sum_of l)) e ∙ past_both laws sum_of before a b m p) in
        record {
          front = a;
          back = [];
          split = e ∙ ap (λ l. a ++ l) (sym (append-nil b));
          place = l;
          sum = p;
          fit = reach_back r a b e fit p;
          sought = record { low = omega arith; high = omega arith };
        }

    pub way_on : {before s t : S} {xs ys zs : List T} {k j n : ℕ} → IsWayTo fits measure target unit op sum_of before xs k s ys
        → IsWayTo fits measure target unit op sum_of s ys j t zs → n ≡ k + j → IsWayTo fits measure target unit op sum_of before xs n t zs
    way_on {before} {s} {zs = zs} v w e = record {
      front = v.front ++ w.front;
      back = w.back ++ v.back;
      split = v.split ∙ ap (λ l. v.front ++ (l ++ v.back)) w.split ∙ ap (λ l. v.front ++ l) (append_assoc w.front (zs ++ w.back) v.back)
          ∙ ap (λ l. v.front ++ (w.front ++ l)) (append_assoc zs w.back v.back) ∙ sym (append_assoc v.front w.front (zs ++ (w.back ++ v.back)));
      place = omega (arith, length-append v.front w.front);
      sum = w.sum ∙ sym (past_both laws sum_of before v.front w.front s v.sum);
      fit = w.fit;
      sought = w.sought;
    }

    -- into the second and into the third of three parts
    module _ {before m : S} (r a b d : List T) {n o k : ℕ} (fit : IsReachable fits unit op sum_of before r)
        (sought : IsTargetAmong measure target unit op sum_of before r) (e : r ≡ a ++ (b ++ d)) (p : m ≡ op before (total unit op sum_of a))
        (q : n ≡ measure (op before (total unit op sum_of a))) (h : n ≤ target) (l : k ≡ length a) where
      pub into_middle : o ≡ measure (op m (total unit op sum_of b)) → target < o → ((a b : S) → fits (op a b) → fits a)
          → IsWayTo fits measure target unit op sum_of before r k m b
      into_middle u i left =
          let over = into_last r a (b ++ d) fit sought e p q h l in
          way_on over (into_first (b ++ d) b d over.fit over.sought refl u i left) (omega arith)

      pub into_third : {s : S} {j : ℕ} → s ≡ op m (total unit op sum_of b) → o ≡ measure (op m (total unit op sum_of b)) → o ≤ target
          → j ≡ length b → IsWayTo fits measure target unit op sum_of before r (k + j) s d
      into_third t u i w =
          let over = into_last r a (b ++ d) fit sought e p q h l in
          way_on over (into_last (b ++ d) b d over.fit over.sought refl t u i w) refl

    -- the element at the end of the way
    pub element_at : {before s : S} {xs ys : List T} {k : ℕ} {x : T} → IsWayTo fits measure target unit op sum_of before xs k s ys
        → ys ≡ x ∷ [] → IsElement measure target unit op sum_of before xs k s x
    element_at {s = s} {x = x} w e =
        let end = ap (λ l. measure (op s (total unit op sum_of l))) e ∙ ap (λ t. measure (op s t)) (laws.right_unit (sum_of x)) in
        record {
          front = w.front;
          back = w.back;
          split = w.split ∙ ap (λ l. w.front ++ (l ++ w.back)) e;
          place = w.place;
          sum = w.sum;
          low = w.sought.low;
          high = omega arith;
        }

    -- elements on the way are elements of the list
    pub way_room : {before s : S} {xs ys : List T} {k : ℕ} → IsWayTo fits measure target unit op sum_of before xs k s ys → k ≤ length xs
    way_room {ys = ys} w = let n = ap length w.split in omega (arith, length-append w.front (ys ++ w.back))
