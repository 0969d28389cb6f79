-- The first line mark, and the bytes in front of it.
use Rattle.std.proofs.Common.{◌≡◌, ℕ, suc, ◌+◌, ◌<◌, ◌≤◌, ◌==◌, not, true, false, cond, List, [], ◌∷◌, length, take, drop, get_or, map}
use Rattle.std.proofs.Common.{refl, sym, ap, ◌∙◌, arith, take-add, take-take, ltb, ltb-true, ltb-false, subst, ◌-◌, take_all, length-take, length-drop}
use Rattle.std.proofs.lemmas.{Bool.cases_Bool, Bool.Decides.nat_tests, Simd.length-chunk, List.drop_more, List.take-map, List.Sums.prefix_len-le-length}
use Rattle.std.specs.List.{prefix_len}
use Rattle.lane_ascii.specs.{Bits.first_set, Flags.flags_set, Leads.in_line, Leads.is_lead, Leads.is_low, Leads.leads, Leads.one_lead, Leads.AreHigh}
use Rattle.lane_ascii.specs.Marks.{cr, lf, is_mark, marks, one_if, ends_cr, IsNthMark}
use Rattle.lemmas.proofs.{Bools.by_test, Bools.top-below, Recursion.sum-append}
use Rattle.lane_ascii.proofs.Prefixes.{behind, ends_in, goes_on, run_of_block}
use lib.Lanes.{mask_l, sel_l, sum_l, top, zip2}

-- a lane of a comparison
abbrev pub below : ℕ → ℕ → ℕ
below a b = cond (ltb a b) 255 0

-- ---- counts

pub leads-le : (bs : List ℕ) → leads bs ≤ length bs
leads-le [] = omega arith
leads-le (b ∷ bs) = grind (arith, cases_Bool (is_lead b), leads-le bs)

-- the ones of a block are as many
ones-leads : (v : List ℕ) → sum_l (map one_lead v) ≡ leads v
ones-leads [] = refl
ones-leads (b ∷ bs) = ap (λ n. one_lead b + n) (ones-leads bs)

pub leads-sum : (n : ℕ) (bs v : List ℕ) → v ≡ map one_lead (take n bs) → (sum_l v ≡ leads (take n bs)) × (sum_l v ≤ n)
leads-sum n bs v is = let all = ap sum_l is ∙ ones-leads (take n bs) in (all, omega (arith, all, leads-le (take n bs), length-take n bs))

flags-leads : (v : List ℕ) → flags_set (map is_lead v) ≡ leads v
flags-leads [] = refl
flags-leads (b ∷ bs) = ap (λ n. one_lead b + n) (flags-leads bs)

pub leads_in_front : (front k : ℕ) (v : List ℕ) → front ≤ k → flags_set (take front (map is_lead (take k v))) ≡ leads (take front v)
leads_in_front front k v h =
    ap flags_set (take-map is_lead front (take k v)) ∙ flags-leads (take front (take k v)) ∙ ap leads (take-take front k v h)

pub leads-more : (at n : ℕ) (bs : List ℕ) → leads (take (at + n) bs) ≡ leads (take at bs) + leads (take n (drop at bs))
leads-more at n bs = ap leads (take-add at n bs) ∙ sum-append leads one_lead refl (λ _ _. refl) (take at bs) (take n (drop at bs))

-- ---- the first mark

-- a byte that is neither CR nor LF is before the first mark
mark_behind : (b : ℕ) (bs : List ℕ) (at : ℕ) → in_line b ≡ true → IsNthMark false bs 0 at → IsNthMark false (b ∷ bs) 0 (suc at)
mark_behind b bs at e m =
    let none : is_mark false b ≡ false = grind (arith, cases_Bool (b == cr), cases_Bool (b == lf), e) in
    let other : (b == cr) ≡ false = grind (arith, cases_Bool (b == cr), e) in
    record {
      within = omega (arith, m.within);
      before = omega (arith, ap one_if none, ap (λ f. marks f (take at bs)) other, m.before);
      is = ap (λ f. is_mark (ends_cr f (take at bs)) (get_or bs at 0)) other ∙ m.is;
    }

pub first_mark : (bs : List ℕ) → prefix_len in_line bs < length bs → IsNthMark false bs 0 (prefix_len in_line bs)
first_mark [] h = absurd (omega arith)
first_mark (b ∷ bs) h =
    by_test (in_line b)
    (λ e. let more : prefix_len in_line (b ∷ bs) ≡ suc (prefix_len in_line bs) = rw e (omega arith) in
    subst (λ at. IsNthMark false (b ∷ bs) 0 at) (sym more) (mark_behind b bs (prefix_len in_line bs) e (first_mark bs (omega (arith, h, more)))))
    (λ e. let here : prefix_len in_line (b ∷ bs) ≡ 0 = rw e refl in
    let ends : is_mark false b ≡ true = grind (arith, cases_Bool (b == cr), cases_Bool (b == lf), e) in
    subst (λ at. IsNthMark false (b ∷ bs) 0 at) (sym here) (record { within = omega arith; before = refl; is = ends }))

pub no_mark : (bs : List ℕ) → length bs ≤ prefix_len in_line bs → marks false bs ≡ 0
no_mark [] h = refl
no_mark (b ∷ bs) h = grind (arith, cases_Bool (b == cr), cases_Bool (b == lf), h, no_mark bs)

-- ---- what was walked over

-- the first `at` bytes aren't marks, and n of them begin a code point
pub record IsWalked (bs : List ℕ) (at n : ℕ) : Type 0 where
  pub within : at ≤ prefix_len in_line bs
  pub counted : n ≡ leads (take at bs)

module _ {bs : List ℕ} {at n : ℕ} (w : IsWalked bs at n) where
  pub walked-within : at ≤ length bs
  walked-within = omega (arith, w.within, prefix_len-le-length in_line bs)

  pub walked-le : n ≤ length bs
  walked-le = omega (arith, w.counted, leads-le (take at bs), length-take at bs)

  pub walked-on : (k : ℕ) {r : ℕ} → at + k ≤ prefix_len in_line bs → r ≡ leads (take k (drop at bs)) → IsWalked bs (at + k) (n + r)
  walked-on k within is = record { within = within; counted = omega (arith, w.counted, is, leads-more at k bs) }

  -- a byte
  one : at < length bs → take 1 (drop at bs) ≡ get_or bs at 0 ∷ []
  one h = ap (take 1) (drop_more bs at 0 h)

  pub byte_goes_on : {r : ℕ} → at < length bs → true ≡ in_line (get_or bs at 0) → r ≡ one_lead (get_or bs at 0) → IsWalked bs (at + 1) (n + r)
  byte_goes_on h e is =
      let alone : 1 ≡ prefix_len in_line (take 1 (drop at bs)) = rw (one h, ← e) refl in
      walked-on 1 (goes_on in_line bs at 1 1 w.within alone (omega arith)) (rw (one h) (omega (arith, is)))

  pub byte_ends : at < length bs → false ≡ in_line (get_or bs at 0) → at ≡ prefix_len in_line bs
  byte_ends h e =
      let none : 0 ≡ prefix_len in_line (take 1 (drop at bs)) = rw (one h, ← e) refl in
      omega (arith, ends_in in_line bs at 1 0 w.within (omega (arith, h)) none (omega arith))

-- ---- the rest, in a slice of its own

module _ {bs : List ℕ} {at n : ℕ} (w : IsWalked bs at n) (rest : List ℕ) (front count : ℕ) (rest_is : rest ≡ take (length bs - at) (drop at bs))
    (is : front ≡ prefix_len in_line rest) (counted : count ≡ leads (take front rest)) where
  whole : rest ≡ drop at bs
  whole = rest_is ∙ take_all (length bs - at) (drop at bs) (omega (arith, length-drop at bs))

  pub rest_ends : at + front ≡ prefix_len in_line bs
  rest_ends = omega (arith, behind in_line at bs w.within, is, ap (prefix_len in_line) whole)

  pub rest_walked : IsWalked bs (at + front) (n + count)
  rest_walked = walked-on w front (omega (arith, rest_ends)) (counted ∙ ap (λ xs. leads (take front xs)) whole)

-- ---- a block, by the mask of its marks

module _ (bs : List ℕ) (at k mask end : ℕ) (front : at ≤ prefix_len in_line bs) (room : at + k ≤ length bs) (few : k ≤ 64)
    (e : mask ≡ mask_l (map (λ b. not (in_line b)) (take k (drop at bs)))) (f : end ≡ first_set mask k) where
  run : end ≡ prefix_len in_line (take k (drop at bs))
  run = run_of_block in_line bs at k mask end room few e f

  pub block-le : end ≤ k
  block-le = omega (arith, run, prefix_len-le-length in_line (take k (drop at bs)), length-take k (drop at bs))

  pub block_ends : end < k → at + end ≡ prefix_len in_line bs
  block_ends h = ends_in in_line bs at k end front room run h

  pub block_full : k ≤ end → at + k ≤ prefix_len in_line bs
  block_full h = goes_on in_line bs at k end front run h

  block_within : at + end ≤ prefix_len in_line bs
  block_within = by_test (ltb end k) (λ h. omega (arith, block_ends (ltb-true end k h))) (λ h. omega (arith, block-le, block_full (ltb-false end k h)))

  -- the bytes of a block before its first mark
  pub block_walked : {n r : ℕ} → n ≡ leads (take at bs) → r ≡ flags_set (take end (map is_lead (take k (drop at bs)))) → IsWalked bs (at + end) (n + r)
  block_walked {n} counted is =
      let w : IsWalked bs at n = record { within = front; counted = counted } in
      walked-on w end block_within (is ∙ leads_in_front end k (drop at bs) block-le)

-- ---- bytes above all marks

-- the lower lanes of two vectors
abbrev lower : List ℕ → List ℕ → List ℕ
lower xs ys = sel_l (map (top 7) (zip2 below xs ys)) xs ys

pub high-lower : (xs ys : List ℕ) → length xs ≡ length ys → AreHigh (lower xs ys) → AreHigh xs × AreHigh ys
high-lower [] [] long h = (tt, tt)
high-lower (x ∷ xs) (y ∷ ys) long h =
    let rest = high-lower xs ys (omega arith) h.1 in
    ((grind (arith, nat_tests, top-below x y, h.0), rest.0), (grind (arith, nat_tests, top-below x y, h.0), rest.1))
high-lower xs ys long h = absurd (omega arith)

pub high-mask : (v : List ℕ) → mask_l (map is_low v) ≡ 0 → AreHigh v
high-mask [] e = tt
high-mask (b ∷ bs) e = (grind (arith, nat_tests, e), high-mask bs (omega (arith, e)))

high-run : (v : List ℕ) → AreHigh v → prefix_len in_line v ≡ length v
high-run [] h = refl
high-run (b ∷ bs) h =
    let in_it : in_line b ≡ true = grind (arith, nat_tests, h.0) in
    let rest = high-run bs h.1 in
    rw in_it (omega (arith, rest))

-- a block of 16 bytes
pub high-goes-on : (bs : List ℕ) (at : ℕ) → at + 16 ≤ length bs → AreHigh (take 16 (drop at bs)) → at ≤ prefix_len in_line bs → at + 16 ≤ prefix_len in_line bs
high-goes-on bs at room high front =
    let run = high-run (take 16 (drop at bs)) high in
    goes_on in_line bs at 16 _ front refl (omega (arith, run, length-chunk at 16 bs room))
