-- Sums and places over the bytes of a text are those over its code points.
use Rattle.std.proofs.Common.{◌≡◌, refl, sym, ap, ◌∙◌, ℕ, zero, suc, ◌+◌, ◌-◌, ◌/◌, ◌%◌, ◌<◌, ◌≤◌, Bool, true, false, cond, ◌==◌, nat_lt, List, [], ◌∷◌, ◌++◌}
use Rattle.std.proofs.Common.{length, Some, None, arith, ltb-true, ltb-false, chars, IsUtf8}
use Rattle.std.{proofs.Math.Utf8.encode, proofs.Math.Utf8.encodes, specs.Option.option_map}
use Rattle.std.proofs.lemmas.{Bool.Decides.nat_tests, Str.encode_ascii, Str.encodes-chars, Str.length-encode}
use Rattle.lane_utf.proofs.{Passing.moved-none, Passing.moved-more, Putting.encode_two, Putting.encode_three, Putting.encode_four}
use Rattle.lane_utf.specs.{Selected.moved, Selected.selected, Selected.scalar_place, Selected.place_index, Weights.pair_weight, Weights.place_in}
use Rattle.lane_utf.specs.{Weights.utf16_weight, Widths.total_width, Widths.pair_width, Widths.utf8_width, Widths.utf16_width, Widths.utf32_width}
use Rattle.lane_utf.specs.declared.select.Select.{Select, TheVariants.At, TheVariants.Inside}
use Rattle.lane_ascii.specs.Leads.{leads, one_lead}
use Rattle.lemmas.proofs.{Bools.by_test, Recursion.sum-ones}

-- trailing bytes, which weigh nothing
abbrev pub Weightless : (ℕ → ℕ) → List ℕ → Type 0
Weightless weight [] = Unit {0}
Weightless weight (b ∷ bs) = (weight b ≡ 0) × Weightless weight bs

-- the whole weight of a code point is that of its first byte
pub record IsLed (weight width : ℕ → ℕ) (c : ℕ) : Type 0 where
  pub lead : ℕ
  pub trail : List ℕ
  pub bytes : encode c ≡ lead ∷ trail
  pub weighs : weight lead ≡ width c
  pub some : 1 ≤ width c
  pub rest : Weightless weight trail

module _ {weight width : ℕ → ℕ} (led : (c : ℕ) → IsLed weight width c) where
  weightless-total : (trail rest : List ℕ) → Weightless weight trail → total_width weight (trail ++ rest) ≡ total_width weight rest
  weightless-total [] rest h = refl
  weightless-total (b ∷ bs) rest h = omega (arith, h.0, weightless-total bs rest h.1)

  weightless-place : (trail rest : List ℕ) (n : ℕ) → Weightless weight trail → place_in weight (trail ++ rest) n ≡ moved (length trail) (place_in weight rest n)
  weightless-place [] rest n h = sym (moved-none (place_in weight rest n))
  weightless-place (b ∷ bs) rest n h = grind (arith, nat_tests, h.0, weightless-place bs rest n h.1, moved-more)

  pub text-total : (cs : List ℕ) → total_width weight (encodes cs) ≡ total_width width cs
  text-total [] = refl
  text-total (c ∷ cs) =
      let l = led c in
      let first : total_width weight (encode c ++ encodes cs) ≡ weight l.lead + total_width weight (l.trail ++ encodes cs) =
      ap (λ k. total_width weight (k ++ encodes cs)) l.bytes in
      omega (arith, first, l.weighs, weightless-total l.trail (encodes cs) l.rest, text-total cs)

  -- over one code point
  past_char : (c n : ℕ) (rest : List ℕ) (s : Select) → place_in weight rest (n - width c) ≡ s
      → place_in weight (encode c ++ rest) n ≡ cond (n == 0) (At 0) (cond (nat_lt n (width c)) Inside (moved (utf8_width c) s))
  past_char c n rest s e =
      let l = led c in
      let behind = weightless-place l.trail rest (n - width c) l.rest in
      rw l.bytes (grind (arith, nat_tests, l.weighs, l.some, behind, moved-more, ap length l.bytes, length-encode c))

  pub text-place : (cs : List ℕ) (n : ℕ) → place_in weight (encodes cs) n ≡ selected width cs n
  text-place [] n = refl
  text-place (c ∷ cs) n = past_char c n (encodes cs) _ (text-place cs (n - width c))

  pub total-of : (bytes text : List ℕ) → IsUtf8 text → bytes ≡ text → total_width weight bytes ≡ total_width width (chars text)
  total-of bytes text u e = ap (total_width weight) (e ∙ sym (encodes-chars text u)) ∙ text-total (chars text)

  pub place-of : (bytes text : List ℕ) (n : ℕ) → IsUtf8 text → bytes ≡ text → place_in weight bytes n ≡ selected width (chars text) n
  place-of bytes text n u e = ap (λ k. place_in weight k n) (e ∙ sym (encodes-chars text u)) ∙ text-place (chars text) n

-- a weight by ranges
module _ (weight width : ℕ → ℕ)
    (low : (c : ℕ) → c < 128 → weight c ≡ width c)
    (middle : (b c : ℕ) → 192 ≤ b → b < 240 → 128 ≤ c → c < 65536 → weight b ≡ width c)
    (high : (b c : ℕ) → 240 ≤ b → 65536 ≤ c → weight b ≡ width c)
    (trail : (b : ℕ) → weight (128 + b % 64) ≡ 0)
    (some : (c : ℕ) → 1 ≤ width c) where
  led : {first : ℕ} {others : List ℕ} (c : ℕ) → encode c ≡ first ∷ others → weight first ≡ width c → Weightless weight others → IsLed weight width c
  led {first} {others} c bytes weighs rest = record { lead = first; trail = others; bytes = bytes; weighs = weighs; some = some c; rest = rest }

  pub led_by_ranges : (c : ℕ) → IsLed weight width c
  led_by_ranges c =
      by_test (nat_lt c 128) (λ t. let h = ltb-true c 128 t in led c (encode_ascii c h) (low c h) tt)
      (λ t. let l = ltb-false c 128 t in by_test (nat_lt c 2048)
      (λ u. let h = ltb-true c 2048 u in led c (encode_two c l h) (middle _ c (omega arith) (omega arith) l (omega arith)) (trail c, tt))
      (λ u. let m = ltb-false c 2048 u in by_test (nat_lt c 65536)
      (λ v. let h = ltb-true c 65536 v in
      led c (encode_three c m h) (middle _ c (omega arith) (omega arith) (omega arith) h) (trail (c / 64), (trail c, tt)))
      (λ v. let h = ltb-false c 65536 v in
      led c (encode_four c h) (high _ c (omega arith) h) (trail (c / 4096), (trail (c / 64), (trail c, tt))))))

pub scalar_led : (c : ℕ) → IsLed one_lead utf32_width c
scalar_led =
    led_by_ranges one_lead utf32_width (λ c h. grind (arith, nat_tests)) (λ b c l h k m. grind (arith, nat_tests))
    (λ b c l h. grind (arith, nat_tests)) (λ b. grind (arith, nat_tests)) (λ c. omega arith)

pub utf16_led : (c : ℕ) → IsLed utf16_weight utf16_width c
utf16_led =
    led_by_ranges utf16_weight utf16_width (λ c h. grind (arith, nat_tests)) (λ b c l h k m. grind (arith, nat_tests))
    (λ b c l h. grind (arith, nat_tests)) (λ b. grind (arith, nat_tests)) (λ c. grind (arith, nat_tests))

pub pair_led : (c : ℕ) → IsLed pair_weight pair_width c
pair_led =
    led_by_ranges pair_weight pair_width (λ c h. grind (arith, nat_tests)) (λ b c l h k m. grind (arith, nat_tests))
    (λ b c l h. grind (arith, nat_tests)) (λ b. grind (arith, nat_tests)) (λ c. grind (arith, nat_tests))

-- code points are counted one by one
ones-length : (cs : List ℕ) → total_width utf32_width cs ≡ length cs
ones-length = sum-ones (total_width utf32_width) refl (λ _ _. refl)

pub leads-weigh : (bytes : List ℕ) → leads bytes ≡ total_width one_lead bytes
leads-weigh [] = refl
leads-weigh (b ∷ bs) = ap (λ n. one_lead b + n) (leads-weigh bs)

pub scalars_of_text : (bytes text : List ℕ) → IsUtf8 text → bytes ≡ text → total_width one_lead bytes ≡ length (chars text)
scalars_of_text bytes text u e = total-of scalar_led bytes text u e ∙ ones-length (chars text)

moved-index : (k : ℕ) (s : Select) → place_index (moved k s) ≡ option_map (λ i. k + i) (place_index s)
moved-index k (At i) = refl
moved-index k s = refl

map-if : (b : Bool) (k i : ℕ) → option_map (λ j. k + j) (cond b (Some i) None) ≡ cond b (Some (k + i)) None
map-if true k i = refl
map-if false k i = refl

scalar-index : (cs : List ℕ) (n : ℕ) → place_index (selected utf32_width cs n) ≡ scalar_place cs n
scalar-index [] zero = refl
scalar-index [] (suc m) = grind (arith, nat_tests)
scalar-index (c ∷ cs) zero = grind (arith, nat_tests)
scalar-index (c ∷ cs) (suc m) = grind (arith, nat_tests, moved-index, map-if, scalar-index cs m)

pub scalar_place_of : (bytes text : List ℕ) (n : ℕ) → IsUtf8 text → bytes ≡ text → place_index (place_in one_lead bytes n) ≡ scalar_place (chars text) n
scalar_place_of bytes text n u e = ap place_index (place-of scalar_led bytes text n u e) ∙ scalar-index (chars text) n
