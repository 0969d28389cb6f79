-- What a search at the root gives for the list.
use Rattle.std.proofs.Common.{◌≡◌, ℕ, ◌+◌, ◌<◌, ◌≤◌, List, [], ◌∷◌, ◌++◌, length, take, drop, ap, sym, ◌∙◌, subst, refl, arith, length-append, append_assoc}
use Rattle.std.proofs.Common.{append-nil, Option, Some, None, option_to_list}
use Rattle.std.proofs.lemmas.List.{take_at, take-append-le, take-append-drop}
use Rattle.sum_tree.specs.{Sums.MonoidLaws, Sums.total, Sums.IsSummable, Reached.IsReachable, Reached.IsElement, Reached.IsPrefix, Reached.IsSearched}
use Rattle.sum_tree.{specs.Reached.IsFirstAbove, proofs.Totals.total-append}

module _ {T S : Type 0} {unit : S} {op : S → S → S} (laws : MonoidLaws unit op) (sum_of : T → S) where
  -- all of a list that fits can be reached from its start
  pub reach_root : {fits : S → Type 0} (s : S) (xs : List T) → s ≡ unit → IsSummable fits unit op sum_of xs → IsReachable fits unit op sum_of s xs
  reach_root {fits} s xs e h =
      let whole : op s (total unit op sum_of xs) ≡ total unit op sum_of xs = ap (λ u. op u (total unit op sum_of xs)) e ∙ laws.left_unit _ in
      record { fit = subst fits (sym whole) h.fit }

  pub prefix_taken : (s : S) (xs : List T) (i : ℕ) (r : S) → s ≡ unit → IsPrefix unit op sum_of s xs i r → r ≡ total unit op sum_of (take i xs)
  prefix_taken s xs i r e h =
      let front : take i xs ≡ h.front = ap (take i) h.split ∙ take_at h.front h.back i (sym h.place) in
      h.sum ∙ ap (λ u. op u (total unit op sum_of h.front)) e ∙ laws.left_unit _ ∙ ap (total unit op sum_of) (sym front)

  module _ (measure : S → ℕ) (target : ℕ) where
    pub searched_some : (s : S) (xs : List T) (k : ℕ) (r : S) (x : T) → s ≡ unit → IsElement measure target unit op sum_of s xs k r x
        → IsSearched measure target unit op sum_of xs k r (Some x)
    searched_some s xs k r x e h = record {
      found = record {
        front = h.front;
        back = h.back;
        split = h.split;
        ends = λ none. absurd (cc);
        sum = h.sum ∙ ap (λ u. op u (total unit op sum_of h.front)) e ∙ laws.left_unit _;
        low = h.low;
        high = h.high;
      };
      place = h.place;
    }

    -- a longer front does not measure less
    longer : ((a b : S) → measure a ≤ measure (op a b)) → (xs : List T) (j : ℕ) → measure (total unit op sum_of (take j xs)) ≤ measure (total unit op sum_of xs)
    longer monotone xs j =
        let cut = ap measure (ap (total unit op sum_of) (sym (take-append-drop j xs)) ∙ total-append laws sum_of (take j xs) (drop j xs)) in
        let more = monotone (total unit op sum_of (take j xs)) (total unit op sum_of (drop j xs)) in
        omega arith

    behind_found : (xs : List T) (k : ℕ) (s : S) (x : Option T) → IsSearched measure target unit op sum_of xs k s x → k < length xs
        → target < measure (total unit op sum_of (take (k + 1) xs))
    behind_found xs k s None h below =
        let rest = h.found.ends refl in
        let whole = ap length (h.found.split ∙ ap (λ b. h.found.front ++ b) rest ∙ append-nil h.found.front) in
        absurd (omega arith)
    behind_found xs k s (Some e) h below =
        let f = h.found.front in
        let cut = h.found.split ∙ sym (append_assoc f (e ∷ []) h.found.back) in
        let n : length (f ++ e ∷ []) ≡ k + 1 = omega (arith, length-append f (e ∷ [])) in
        let taken = ap (take (k + 1)) cut ∙ take_at (f ++ e ∷ []) h.found.back (k + 1) n in
        let sum = total-append laws sum_of f (e ∷ []) ∙ ap (op (total unit op sum_of f)) (laws.right_unit (sum_of e))
        ∙ ap (λ t. op t (sum_of e)) (sym h.found.sum) in
        let same = ap measure (ap (total unit op sum_of) taken ∙ sum) in
        omega arith

    pub first_above : ((a b : S) → measure a ≤ measure (op a b)) → (xs : List T) (k : ℕ) (s : S) (x : Option T)
        → IsSearched measure target unit op sum_of xs k s x → IsFirstAbove measure target unit op sum_of xs k s
    first_above monotone xs k s x h =
        let f = h.found.front in
        let split = h.found.split in
        let rest = option_to_list x ++ h.found.back in
        let front : take k xs ≡ f = ap (take k) split ∙ take_at f rest k (sym h.place) in
        record {
          within = let n = ap length split in omega (arith, length-append f rest);
          sum = h.found.sum ∙ ap (total unit op sum_of) (sym front);
          before = λ j below.
              let shorter = ap (λ l. measure (total unit op sum_of l)) (ap (take (j + 1)) split ∙ take-append-le (j + 1) f rest (omega arith)) in
              let more = longer monotone f (j + 1) in
              let sum = ap measure h.found.sum in
              omega arith;
          behind = behind_found xs k s x h;
        }

-- past all elements there is none
pub searched_none : {T S : Type 0} (measure : S → ℕ) (target : ℕ) (unit : S) (op : S → S → S) (sum_of : T → S) (xs : List T) (k : ℕ)
    (r : S) (n : ℕ) → r ≡ total unit op sum_of xs → n ≡ measure r → n ≤ target → k ≡ length xs → IsSearched measure target unit op sum_of xs k r None
searched_none measure target unit op sum_of xs k r n e m h p = record {
  found = record {
    front = xs;
    back = [];
    split = sym (append-nil xs);
    ends = λ none. refl;
    sum = e;
    low = omega arith;
    high = tt;
  };
  place = p;
}
