-- Weights of bytes, one by one and lane by lane.
use Rattle.std.proofs.Common.{◌≡◌, refl, sym, ap, ap₂, ◌∙◌, ℕ, false, get_or, nat_lt, ltb-true, ltb-false, zero, suc, ◌+◌, ◌%◌, ◌^◌, ◌≤◌, Bool, cond, leb, ltb}
use Rattle.std.proofs.Common.{List, [], ◌∷◌, length, map, take, drop, arith, replicate, ◌-◌, IsAscii, length-drop, length-take}
use Rattle.std.proofs.lemmas.{Bool.cases_Bool, Bool.Decides.nat_tests, List.drop-map, List.get_or_past, List.length-map, Simd.mask_l-mod, Simd.ones-mask_l_cons}
use Rattle.std.{proofs.lemmas.Simd.map-map, proofs.lemmas.Simd.tops_compared, proofs.lemmas.Simd.zip2_splat_left, specs.Int.RustNames.count_ones}
use mathlib.Core.Path.{fun_ext}
use Rattle.lemmas.proofs.Bools.{by_test, lowest_clear, top-below}
use lib.Lanes.{mask_l, sel_l, sum_l, top, zip2}
use mir.{Syntax.Width, Val.bits, Val.hbits}
use Rattle.lane_ascii.specs.{Flags.flags_set, Leads.is_lead, Leads.one_lead}
use Rattle.lane_utf.specs.{Weights.AreBelowFour, Weights.begins_four, Weights.utf16_weight, Widths.total_width}

-- a lane of a comparison
abbrev pub below : ℕ → ℕ → ℕ
below a b = cond (ltb a b) 255 0

-- a mask that is computed lane by lane
pub mask_of_lanes : (h : ℕ) (f : ℕ → ℕ) (p : ℕ → Bool) (v : List ℕ) (n : ℕ) {z : List ℕ} → length v ≡ n → n ≤ 64 → z ≡ map f v
    → ((u : ℕ) → top h (f u) ≡ p u) → mask_l (map (top h) z) % 2 ^ 64 ≡ mask_l (map p v)
mask_of_lanes h f p v n long few lanes same =
    ap (λ xs. mask_l xs % 2 ^ 64) (ap (map (top h)) lanes ∙ map-map (top h) f v ∙ ap (λ q. map q v) (fun_ext same))
    ∙ mask_l-mod (map p v) 64 (omega (arith, length-map v p))

-- lanes that are not below a bound
pub mask_least : (w : Width) (n from : ℕ) (v : List ℕ) → length v ≡ n → n ≤ 64
    → mask_l (map (top (hbits w)) (zip2 (λ a b. cond (leb a b) (2 ^ bits w - 1) 0) (replicate n from) v)) % 2 ^ 64 ≡ mask_l (map (leb from) v)
mask_least w n from v long few =
    ap (λ xs. mask_l xs % 2 ^ 64) (tops_compared w leb (replicate n from) v ∙ zip2_splat_left leb from n v long)
    ∙ mask_l-mod (map (leb from) v) 64 (omega (arith, length-map v (leb from)))

-- the bits that are set are the lanes that pass
pub ones_counted : (p : ℕ → Bool) (v : List ℕ) → count_ones (mask_l (map p v)) ≡ total_width (λ b. cond (p b) 1 0) v
unfolding count_ones
ones_counted p [] = refl
ones_counted p (b ∷ bs) = ones-mask_l_cons (p b) (map p bs) ∙ ap (λ n. cond (p b) 1 0 + n) (ones_counted p bs)

total-sum : (f g : ℕ → ℕ) (v : List ℕ) → total_width (λ b. f b + g b) v ≡ total_width f v + total_width g v
total-sum f g [] = refl
total-sum f g (b ∷ bs) = omega (arith, total-sum f g bs)

-- if no bit is set, all are ASCII bytes
pub no_bit_set : (v : List ℕ) → mask_l (map (leb 128) v) ≡ 0 → IsAscii v
no_bit_set [] e i = omega arith
no_bit_set (b ∷ bs) e zero = grind (arith, nat_tests, e)
no_bit_set (b ∷ bs) e (suc i) = no_bit_set bs (omega (arith, e)) i

flags_total : (p : ℕ → Bool) (v : List ℕ) → flags_set (map p v) ≡ total_width (λ b. cond (p b) 1 0) v
flags_total p [] = refl
flags_total p (b ∷ bs) = ap (λ n. cond (p b) 1 0 + n) (flags_total p bs)

-- those of a mask that are left behind some lanes
pub ones_left : (p : ℕ → Bool) (k : ℕ) (v : List ℕ) → flags_set (drop k (map p v)) ≡ total_width (λ b. cond (p b) 1 0) (drop k v)
ones_left p k v = ap flags_set (drop-map p k v) ∙ flags_total p (drop k v)

-- as many as there are, at most
pub ones-le : (p : ℕ → Bool) (v : List ℕ) → total_width (λ b. cond (p b) 1 0) v ≤ length v
ones-le p [] = omega arith
ones-le p (b ∷ bs) = grind (arith, cases_Bool (p b), ones-le p bs)

-- two masks counted: a weight that is one for each test that a byte passes
abbrev pub both : (ℕ → Bool) → (ℕ → Bool) → ℕ → ℕ
both p q b = cond (p b) 1 0 + cond (q b) 1 0

pub both_counted : (p q : ℕ → Bool) (v : List ℕ) (m n : ℕ) → m ≡ mask_l (map p v) → n ≡ mask_l (map q v)
    → count_ones m + count_ones n ≡ total_width (both p q) v
both_counted p q v m n e f =
    ap₂ (λ a b. a + b) (ap count_ones e ∙ ones_counted p v) (ap count_ones f ∙ ones_counted q v)
    ∙ sym (total-sum (λ b. cond (p b) 1 0) (λ b. cond (q b) 1 0) v)

-- the same of what is left behind some lanes; each counts as many bytes as there are, at most
module _ (p q : ℕ → Bool) (k : ℕ) (v : List ℕ) {a b m n : ℕ} (e : a ≡ mask_l (map p v)) (f : b ≡ mask_l (map q v))
    (count : (flags : List Bool) → a ≡ mask_l flags → m ≡ flags_set (drop k flags))
    (more : (flags : List Bool) → b ≡ mask_l flags → n ≡ flags_set (drop k flags)) where
  pub both_left : m + n ≡ total_width (both p q) (drop k v)
  both_left = ap₂ (λ x y. x + y) (count (map p v) e ∙ ones_left p k v) (more (map q v) f ∙ ones_left q k v)
      ∙ sym (total-sum (λ x. cond (p x) 1 0) (λ x. cond (q x) 1 0) (drop k v))

  pub both-le : m + n ≤ length v + length v
  both-le = omega (
    arith,
    count (map p v) e ∙ ones_left p k v,
    more (map q v) f ∙ ones_left q k v,
    ones-le p (drop k v),
    ones-le q (drop k v),
    length-drop k v,
  )

-- the greater lanes of two vectors
abbrev greater : List ℕ → List ℕ → List ℕ
greater xs ys = sel_l (map (top 7) (zip2 below xs ys)) ys xs

of_greater : (x y : ℕ) → begins_four (cond (top 7 (below x y)) y x) ≡ false → (begins_four x ≡ false) × (begins_four y ≡ false)
of_greater x y e = (grind (arith, nat_tests, top-below x y, e), grind (arith, nat_tests, top-below x y, e))

-- if none of these begins four bytes, neither does one of both
pub below_greater : (xs ys : List ℕ) → length xs ≡ length ys → mask_l (map begins_four (greater xs ys)) ≡ 0
    → (k : ℕ) → (begins_four (get_or xs k 0) ≡ false) × (begins_four (get_or ys k 0) ≡ false)
below_greater [] [] long e k = (refl, refl)
below_greater (x ∷ xs) (y ∷ ys) long e zero = of_greater x y (lowest_clear _ _ e).0
below_greater (x ∷ xs) (y ∷ ys) long e (suc k) = below_greater xs ys (omega arith) (lowest_clear _ _ e).1 k
below_greater xs ys long e k = absurd (omega arith)

-- a block that ends with the bytes and begins among those before them reaches their end
pub below_joined : (bs : List ℕ) (at last : ℕ) → AreBelowFour bs 0 at → AreBelowFour bs last (last + 128) → last ≤ at → length bs ≤ last + 128
    → (k : ℕ) → begins_four (get_or bs k 0) ≡ false
below_joined bs at last front behind from to k =
    by_test (nat_lt k at) (λ t. front k (omega arith) (ltb-true k at t)) (λ t.
    by_test (nat_lt k (last + 128)) (λ u. behind k (omega (arith, ltb-false k at t)) (ltb-true k (last + 128) u))
    (λ u. ap begins_four (get_or_past bs k 0 (omega (arith, ltb-false k (last + 128) u)))))

-- then units are as many as code points
pub units-scalars : (bs : List ℕ) → ((k : ℕ) → begins_four (get_or bs k 0) ≡ false) → total_width utf16_weight bs ≡ total_width one_lead bs
units-scalars [] below = refl
units-scalars (b ∷ bs) below = grind (arith, below 0, units-scalars bs (λ k. below (suc k)))

sum-total : (f : ℕ → ℕ) (v : List ℕ) → sum_l (map f v) ≡ total_width f v
sum-total f [] = refl
sum-total f (b ∷ bs) = ap (λ n. f b + n) (sum-total f bs)

pub leads-total : (n : ℕ) (bs v : List ℕ) → v ≡ map one_lead (take n bs) → (sum_l v ≡ total_width one_lead (take n bs)) × (sum_l v ≤ n)
leads-total n bs v is =
    let all = ap sum_l is ∙ sum-total one_lead (take n bs) in
    (all, omega (arith, all, ones-le is_lead (take n bs), length-take n bs))
