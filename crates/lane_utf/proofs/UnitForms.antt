-- The forms of units that are no surrogates, lane by lane.
use Rattle.std.proofs.Common.{◌≡◌, refl, sym, ap, ap₂, ◌∙◌, ℕ, zero, suc, ◌+◌, ◌*◌, ◌/◌, ◌%◌, ◌^◌, ◌<◌, ltb, Bool, false, cond, List, [], ◌∷◌, length}
use Rattle.std.proofs.Common.{take, drop, get_or, map, map-id, replicate, arith, bit_and, subst, Fits, w8, w16, w32}
use Rattle.std.proofs.lemmas.{Nat.and_mask, Nat.le_bytes_4, List.get_or-map, Bool.cases_Bool, Bool.Decides.nat_tests}
use Rattle.std.proofs.lemmas.Simd.{Each1-get_or, tops_compared, zip2_splat, splat_is_map, get_or-chunk}
use Rattle.std.specs.{Int.to_le_bytes, Simd.Lanes.Each1}
use lib.Lanes.{mask_l, sel_l, top, zip2}
use Rattle.lane_utf.specs.UnitForms.{by_width, first_byte, second_byte, four_bytes, form_number, IsUnitForm}
use Rattle.lane_utf.specs.{Utf16.is_surrogate, Widths.utf8_width}

-- ---- the lanes of one of three vectors

abbrev below : ℕ → ℕ → ℕ
below u k = cond (ltb u k) 65535 0

tests : (k : ℕ) (v : List ℕ) → length v ≡ 8 → map (top 15) (zip2 below v (replicate 8 k)) ≡ map (λ u. ltb u k) v
tests k v long = tops_compared w16 ltb v (replicate 8 k) ∙ zip2_splat ltb v 8 k long

chosen : (v xs ys zs : List ℕ) → sel_l (map (λ u. ltb u 128) v) xs (sel_l (map (λ u. ltb u 2048) v) ys zs) ≡ by_width v xs ys zs
chosen [] xs ys zs = refl
chosen (u ∷ us) [] ys zs = refl
chosen (u ∷ us) (x ∷ xs) [] zs = refl
chosen (u ∷ us) (x ∷ xs) (y ∷ ys) [] = refl
chosen (u ∷ us) (x ∷ xs) (y ∷ ys) (z ∷ zs) = ap (λ k. cond (ltb u 128) x (cond (ltb u 2048) y z) ∷ k) (chosen us xs ys zs)

pub lanes_by_width : (v xs ys zs : List ℕ) → length v ≡ 8
    → sel_l (map (top 15) (zip2 below v (replicate 8 128))) xs (sel_l (map (top 15) (zip2 below v (replicate 8 2048))) ys zs) ≡ by_width v xs ys zs
lanes_by_width v xs ys zs long = rw (tests 128 v long, tests 2048 v long) (chosen v xs ys zs)

-- ---- where these are what functions give for each unit

abbrev pick : (ℕ → ℕ) → (ℕ → ℕ) → (ℕ → ℕ) → ℕ → ℕ
pick f g h u = cond (ltb u 128) (f u) (cond (ltb u 2048) (g u) (h u))

of_maps : (f g h k : ℕ → ℕ) → ((u : ℕ) → u < 65536 → pick f g h u ≡ k u) → (v : List ℕ) → Each1 (Fits w16) v
    → by_width v (map f v) (map g v) (map h v) ≡ map k v
of_maps f g h k same [] fits = refl
of_maps f g h k same (u ∷ us) fits = ap₂ (λ n r. n ∷ r) (same u fits.0.fits) (of_maps f g h k same us fits.1)

each_small : (k : ℕ → ℕ) → ((u : ℕ) → u < 65536 → k u < 256) → (v : List ℕ) → Each1 (Fits w16) v → Each1 (Fits w8) (map k v)
each_small k few [] fits = tt
each_small k few (u ∷ us) fits = (record { fits = few u fits.0.fits }, each_small k few us fits.1)

of_lanes : (f g h k : ℕ → ℕ) → ((u : ℕ) → u < 65536 → pick f g h u ≡ k u) → ((u : ℕ) → u < 65536 → k u < 256) → (v x y z r : List ℕ)
    → Each1 (Fits w16) v → x ≡ map f v → y ≡ map g v → z ≡ map h v → r ≡ by_width v x y z → (r ≡ map k v) × Each1 (Fits w8) r
of_lanes f g h k same few v x y z r fits xs ys zs is =
    let all : r ≡ map k v = is ∙ rw (xs, ys, zs) (of_maps f g h k same v fits) in
    (all, rw all (each_small k few v fits))

pub of_firsts : (v y z r : List ℕ) → Each1 (Fits w16) v → y ≡ map (λ u. 0xC0 + bit_and (u / 2 ^ 6) 31) v → z ≡ map (λ u. 0xE0 + bit_and (u / 2 ^ 12) 15) v
    → r ≡ by_width v v y z → (r ≡ map first_byte v) × Each1 (Fits w8) r
of_firsts v y z r fits =
    of_lanes (λ u. u) _ _ first_byte (λ u h. grind (arith, nat_tests, and_mask (u / 64) 5, and_mask (u / 4096) 4)) (λ u h. grind (arith, nat_tests)) v v y z r
    fits (sym (map-id v))

pub of_seconds : (v x z r : List ℕ) → Each1 (Fits w16) v → x ≡ map (λ u. 0x80 + bit_and (u / 2 ^ 0) 63) v → z ≡ map (λ u. 0x80 + bit_and (u / 2 ^ 6) 63) v
    → r ≡ by_width v x x z → (r ≡ map second_byte v) × Each1 (Fits w8) r
of_seconds v x z r fits xs =
    of_lanes _ _ _ second_byte (λ u h. grind (arith, nat_tests, and_mask (u / 1) 6, and_mask (u / 64) 6)) (λ u h. grind (arith, nat_tests)) v x x z r fits xs xs

pub of_widths : (v r : List ℕ) → length v ≡ 8 → Each1 (Fits w16) v → r ≡ by_width v (replicate 8 1) (replicate 8 2) (replicate 8 3)
    → (r ≡ map utf8_width v) × Each1 (Fits w8) r
of_widths v r long fits =
    of_lanes _ _ _ utf8_width (λ u h. grind (arith, nat_tests)) (λ u h. grind (arith, nat_tests)) v _ _ _ r fits
    (splat_is_map v 8 1 long) (splat_is_map v 8 2 long) (splat_is_map v 8 3 long)

-- ---- the numbers of forms

-- sums and shifts of lanes, of as many bits as numbers below the first one have
abbrev sum : ℕ → ℕ → ℕ → ℕ
sum most a b = (a + b) % most

abbrev up : ℕ → ℕ → ℕ → ℕ
up most a b = a * 2 ^ b % most

abbrev third_bits : ℕ → ℕ
third_bits u = 0x80 + bit_and (u / 2 ^ 0) 63

abbrev summed : ℕ → List ℕ → List ℕ → List ℕ → List ℕ
summed n firsts seconds thirds =
    let fronts = zip2 (sum 0x10000) firsts (zip2 (up 0x10000) seconds (replicate n 8)) in
    zip2 (sum 0x100000000) (map (λ k. k) fronts) (zip2 (up 0x100000000) (map (λ k. k) thirds) (replicate n 16))

one_number : (u : ℕ) → u < 65536
    → sum 0x100000000 (sum 0x10000 (first_byte u) (up 0x10000 (second_byte u) 8)) (up 0x100000000 (third_bits u) 16) ≡ form_number u
one_number u h = grind (arith, nat_tests, and_mask (u / 1) 6)

numbers_of : (n : ℕ) (v : List ℕ) → length v ≡ n → Each1 (Fits w16) v
    → summed n (map first_byte v) (map second_byte v) (map third_bits v) ≡ map form_number v
numbers_of zero [] long fits = refl
numbers_of zero (u ∷ us) long fits = absurd (omega (arith, long))
numbers_of (suc n) [] long fits = absurd (omega (arith, long))
numbers_of (suc n) (u ∷ us) long fits = ap₂ (λ k r. k ∷ r) (one_number u fits.0.fits) (numbers_of n us (omega (arith, long)) fits.1)

pub numbers : (v x y z : List ℕ) → length v ≡ 8 → Each1 (Fits w16) v
    → x ≡ map first_byte v → y ≡ map second_byte v → z ≡ map third_bits v → summed 8 x y z ≡ map form_number v
numbers v x y z long fits xs ys zs = rw (xs, ys, zs) (numbers_of 8 v long fits)

-- ---- the bytes of these

small_bytes : (u : ℕ) → u < 65536 → (i : ℕ) → get_or (four_bytes u) i 0 < 256
small_bytes u h zero = grind (arith, nat_tests)
small_bytes u h (suc zero) = grind (arith, nat_tests)
small_bytes u h (suc (suc zero)) = omega arith
small_bytes u h (suc (suc (suc zero))) = omega arith
small_bytes u h (suc (suc (suc (suc i)))) = omega arith

number_bytes : (u : ℕ) → u < 65536 → to_le_bytes w32 (form_number u) ≡ four_bytes u
number_bytes u h = le_bytes_4 (four_bytes u) (form_number u) refl (small_bytes u h) (omega arith)

-- ---- the lanes of units

none_set : (p : ℕ → Bool) (v : List ℕ) (i : ℕ) → mask_l (map p v) ≡ 0 → i < length v → p (get_or v i 0) ≡ false
none_set p [] i e some = absurd (omega (arith, some))
none_set p (u ∷ us) zero e some = grind (arith, cases_Bool (p u), e)
none_set p (u ∷ us) (suc i) e some = none_set p us i (omega (arith, e)) (omega (arith, some))

pub form_at : (v units forms ws : List ℕ) (at lane : ℕ) → lane < 8 → length v ≡ 8 → Each1 (Fits w16) v → v ≡ take 8 (drop at units)
    → mask_l (map is_surrogate v) ≡ 0 → forms ≡ map form_number v → ws ≡ map utf8_width v
    → IsUnitForm (get_or units (at + lane) 0) (to_le_bytes w32 (get_or forms lane 0)) (get_or ws lane 0)
form_at v units forms ws at lane few long fits is plain bytes widths =
    let some : lane < length v = omega (arith, few, long) in
    let unit : get_or v lane 0 ≡ get_or units (at + lane) 0 = ap (λ k. get_or k lane 0) is ∙ get_or-chunk at 8 units lane 0 few in
    let surrogate : is_surrogate (get_or units (at + lane) 0) ≡ false = ap is_surrogate (sym unit) ∙ none_set is_surrogate v lane plain some in
    let of = λ (f : ℕ → ℕ) (l : List ℕ) (e : l ≡ map f v).
    ap (λ k. get_or k lane 0) e ∙ get_or-map f v lane 0 0 some ∙ ap f unit in
    record {
      plain = grind (arith, nat_tests, surrogate);
      bytes = ap (to_le_bytes w32) (of form_number forms bytes) ∙ number_bytes _ (subst (Fits w16) unit (Each1-get_or (Fits w16) v lane 0 some fits)).fits;
      width = of utf8_width ws widths;
    }
