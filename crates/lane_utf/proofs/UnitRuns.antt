-- Runs of units that stand for equally many bytes of UTF-8.
use Rattle.std.proofs.Common.{◌≡◌, refl, sym, ap, ap₂, ◌∙◌, ℕ, zero, suc, ◌+◌, ◌-◌, ◌/◌, ◌%◌, ◌^◌, ◌<◌, Bool, true, false, cond, List, [], ◌∷◌, ◌++◌}
use Rattle.std.proofs.Common.{length, map, get_or, replicate, arith, bit_and, subst, Fits, w8, pow_pos, pow-suc}
use Rattle.std.proofs.lemmas.{Nat.and_mask, Nat.and_le_r, Simd.zip2_splat, Simd.zip2_of_maps, Simd.splat_is_map, Simd.pick_l_whole}
use Rattle.std.proofs.lemmas.{List.length-map, Bool.Decides.nat_tests}
use Rattle.std.specs.{List.prefix_len, Simd.Lanes.Each1, Simd.Lanes.put_chunk}
use mathlib.Core.Path.{fun_ext}
use lib.{Lanes.mask_l, Lanes.zip2}
use Rattle.lane_utf.specs.{Weights.has_two, UnitRuns.is_one, UnitRuns.trail_byte, UnitRuns.one_forms, UnitRuns.three_forms}
use Rattle.lane_utf.proofs.Putting.{put_append}

-- ---- masks of eight lanes

-- all bits are set
full : (n : ℕ) (flags : List Bool) → length flags ≡ n → mask_l flags ≡ 2 ^ n - 1 → n ≡ prefix_len (λ flag. flag) flags
full zero [] long e = refl
full zero (flag ∷ flags) long e = absurd (omega (arith, long))
full (suc n) [] long e = absurd (omega (arith, long))
full (suc n) (true ∷ flags) long e = ap suc (full n flags (omega (arith, long)) (omega (arith, e, pow-suc 2 n, pow_pos n))) ∙ omega arith
full (suc n) (false ∷ flags) long e = absurd (omega (arith, e, pow-suc 2 n, pow_pos n))

front_set : (p : ℕ → Bool) (v : List ℕ) → prefix_len (λ flag. flag) (map p v) ≡ prefix_len p v
front_set p [] = refl
front_set p (u ∷ us) = ap (λ n. cond (p u) (1 + n) 0) (front_set p us)

pub all_set : (p : ℕ → Bool) (v : List ℕ) → length v ≡ 8 → mask_l (map p v) ≡ 255 → 8 ≡ prefix_len p v
all_set p v long e = full 8 (map p v) (length-map v p ∙ long) e ∙ front_set p v

-- units of which none has a second byte are ASCII
pub none_has_two : (v : List ℕ) → mask_l (map has_two v) ≡ 0 → length v ≡ prefix_len is_one v
none_has_two [] e = refl
none_has_two (u ∷ us) e =
    let rest = none_has_two us (omega (arith, e)) in
    grind (arith, nat_tests, e, rest)

-- ---- a byte of each unit's form, lane by lane

abbrev wrapped_sum : ℕ → ℕ → ℕ
wrapped_sum a b = (a + b) % 65536

abbrev down : ℕ → ℕ → ℕ
down a b = a / 2 ^ b

part : (x mask mark : ℕ) → mark + mask < 256 → (bit_and x mask + mark) % 65536 ≡ mark + bit_and x mask
part x mask mark h = omega (arith, h, and_le_r x mask)

map_same : (f g : ℕ → ℕ) → ((u : ℕ) → f u ≡ g u) → (v : List ℕ) → map f v ≡ map g v
map_same f g same v = ap (λ h. map h v) (fun_ext same)

pub parts : (n : ℕ) (v : List ℕ) (shift mask mark : ℕ) → length v ≡ n → mark + mask < 256
    → zip2 wrapped_sum (zip2 bit_and (zip2 down v (replicate n shift)) (replicate n mask)) (replicate n mark) ≡ map (λ u. mark + bit_and (u / 2 ^ shift) mask) v
parts n v shift mask mark long h =
    zip2_of_maps wrapped_sum _ _ v (zip2_of_maps bit_and _ _ v (zip2_splat down v n shift long) (splat_is_map v n mask long)) (splat_is_map v n mark long)
    ∙ map_same _ _ (λ u. part (u / 2 ^ shift) mask mark h) v

each_fits : (f : ℕ → ℕ) → ((u : ℕ) → f u < 256) → (v : List ℕ) → Each1 (Fits w8) (map f v)
each_fits f small [] = tt
each_fits f small (u ∷ us) = (record { fits = small u }, each_fits f small us)

pub small_parts : (v z : List ℕ) (shift mask mark : ℕ) → mark + mask < 256 → z ≡ map (λ u. mark + bit_and (u / 2 ^ shift) mask) v → Each1 (Fits w8) z
small_parts v z shift mask mark h is = rw is (each_fits _ (λ u. omega (arith, h, and_le_r (u / 2 ^ shift) mask)) v)

-- ---- the bytes of eight units, in their order

trail_bits : (u : ℕ) → 0x80 + bit_and (u / 2 ^ 0) 63 ≡ trail_byte u
trail_bits u = omega (arith, and_mask (u / 1) 6)

pub ones_put : (v x : List ℕ) → x ≡ map (λ u. 0 + bit_and (u / 2 ^ 0) 127) v → x ≡ one_forms v
ones_put v x is = is ∙ map_same _ _ (λ u. omega (arith, and_mask (u / 1) 7)) v

abbrev woven_front : List ℕ → List ℕ → List ℕ
woven_front xs ys =
    get_or xs 0 0 ∷ get_or xs 8 0 ∷ get_or ys 0 0 ∷ get_or xs 1 0 ∷ get_or xs 9 0 ∷ get_or ys 1 0 ∷ get_or xs 2 0 ∷ get_or xs 10 0 ∷ get_or ys 2 0
    ∷ get_or xs 3 0 ∷ get_or xs 11 0 ∷ get_or ys 3 0 ∷ get_or xs 4 0 ∷ get_or xs 12 0 ∷ get_or ys 4 0 ∷ get_or xs 5 0 ∷ []

abbrev woven_behind : List ℕ → List ℕ → List ℕ
woven_behind xs ys =
    get_or xs 13 0 ∷ get_or ys 5 0 ∷ get_or xs 6 0 ∷ get_or xs 14 0 ∷ get_or ys 6 0 ∷ get_or xs 7 0 ∷ get_or xs 15 0 ∷ get_or ys 7 0 ∷ []

pub threes_put : (v x y z bytes : List ℕ) (at : ℕ) → length v ≡ 8 → x ≡ map (λ u. 0xE0 + bit_and (u / 2 ^ 12) 15) v
    → y ≡ map (λ u. 0x80 + bit_and (u / 2 ^ 6) 63) v → z ≡ map (λ u. 0x80 + bit_and (u / 2 ^ 0) 63) v
    → put_chunk (at + 16) (put_chunk at bytes (woven_front (x ++ y) (z ++ z))) (woven_behind (x ++ y) (z ++ z)) ≡ put_chunk at bytes (three_forms v)
threes_put v x y z bytes at long xs ys zs =
    let first = λ (u : ℕ). 0xE0 + u / 0x1000 % 0x10 in
    let middle = λ (u : ℕ). trail_byte (u / 0x40) in
    let all = λ (k m : List ℕ). woven_front k m ++ woven_behind k m in
    let xy : x ++ y ≡ map first v ++ map middle v =
    ap₂ (λ k m. k ++ m) (xs ∙ map_same _ first (λ u. ap (λ n. 0xE0 + n) (and_mask (u / 4096) 4)) v)
    (ys ∙ map_same _ middle (λ u. ap (λ n. 0x80 + n) (and_mask (u / 64) 6)) v) in
    let zz : z ++ z ≡ map trail_byte v ++ map trail_byte v = ap (λ k. k ++ k) (zs ∙ map_same _ _ trail_bits v) in
    sym (put_append at (at + 16) bytes (woven_front (x ++ y) (z ++ z)) (woven_behind (x ++ y) (z ++ z)) refl)
    ∙ ap (put_chunk at bytes) (ap₂ all xy zz ∙ subst (λ w. all (map first w ++ map middle w) (map trail_byte w ++ map trail_byte w) ≡ three_forms w)
    (pick_l_whole 0 v 8 long) refl)
