-- How many code points in front have at most a weight: along bytes, block by block, and over a text.
use Rattle.std.proofs.Common.{◌≡◌, refl, sym, ap, subst, ◌∙◌, ℕ, zero, suc, ◌+◌, ◌-◌, ◌<◌, ◌≤◌, cond, nat_lt, List, [], ◌∷◌, ◌++◌, length, take, drop, get_or}
use Rattle.std.proofs.{Common.length-append, Common.arith, Common.ltb-true, Common.ltb-false, Common.chars, Common.IsUtf8, Math.Utf8.encode, Math.Utf8.encodes}
use Rattle.std.proofs.lemmas.{Bool.Decides.nat_tests, List.drop_more, List.length-drop, Simd.chunk-drop, Str.encodes-chars, Str.length-encode}
use Rattle.lane_ascii.specs.Leads.{one_lead}
use Rattle.lane_utf.{proofs.UnitSums.encodes-width, specs.Weights.within_in, specs.Within.within, specs.Widths.total_width, specs.Widths.utf8_width}
use Rattle.lane_utf.proofs.TextSums.{IsLed, Weightless, scalar_led, scalars_of_text}
use Rattle.lemmas.proofs.Bools.{by_test}

-- each begins with a byte
front-le : (weight : ℕ → ℕ) (bs : List ℕ) (n : ℕ) → within_in weight bs n ≤ length bs
front-le weight [] n = omega arith
front-le weight (b ∷ bs) n = grind (arith, nat_tests, front-le weight bs (n - weight b))

past_front : (weight : ℕ → ℕ) (block rest : List ℕ) (n : ℕ) → total_width weight block ≤ n
    → within_in weight (block ++ rest) n ≡ total_width one_lead block + within_in weight rest (n - total_width weight block)
past_front weight [] rest n h = grind arith
past_front weight (b ∷ bs) rest n h = grind (arith, nat_tests, past_front weight bs rest (n - weight b) (omega (arith, h)))

-- From index `from` on as many weigh `n` at most as `count` and those from `at` on that weigh `left` at most.
pub record IsCounted (weight : ℕ → ℕ) (xs : List ℕ) (from n at left count : ℕ) : Type 0 where
  pub within : at ≤ length xs
  pub same : count + within_in weight (drop at xs) left ≡ within_in weight (drop from xs) n

module _ {weight : ℕ → ℕ} {xs : List ℕ} {from n at left count : ℕ} (s : IsCounted weight xs from n at left count) where
  pub block_counted : (k : ℕ) {sum ones : ℕ} → at + k ≤ length xs → sum ≡ total_width weight (take k (drop at xs)) → sum ≤ left
      → ones ≡ total_width one_lead (take k (drop at xs)) → IsCounted weight xs from n (at + k) (left - sum) (count + ones)
  block_counted k room is h ones = record {
    within = room;
    same =
        let whole = past_front weight (take k (drop at xs)) (drop (at + k) xs) left (omega (arith, is, h)) in
        grind (arith, chunk-drop at k xs, whole, is, ones, s.same);
  }

  pub one_counted : {w one : ℕ} → at < length xs → w ≡ weight (get_or xs at 0) → w ≤ left → one ≡ one_lead (get_or xs at 0)
      → IsCounted weight xs from n (at + 1) (left - w) (count + one)
  one_counted room is h one = record { within = omega arith; same = grind (arith, nat_tests, drop_more xs at 0 room, is, h, one, s.same) }

  pub count_bound : count + within_in weight (drop at xs) left ≤ length xs
  count_bound = omega (arith, s.same, front-le weight (drop from xs) n, length-drop from xs)

-- trailing bytes, which begin no code point either
module _ {weight width : ℕ → ℕ} (led : (c : ℕ) → IsLed weight width c) where
  weightless-front : (trail rest : List ℕ) (n : ℕ) → Weightless weight trail → Weightless one_lead trail
      → within_in weight (trail ++ rest) n ≡ within_in weight rest n
  weightless-front [] rest n h k = refl
  weightless-front (b ∷ bs) rest n h k = grind (arith, nat_tests, h.0, k.0, weightless-front bs rest n h.1 k.1)

  -- over one code point
  past_char : (c n : ℕ) (rest : List ℕ) → within_in weight (encode c ++ rest) n ≡ cond (nat_lt n (width c)) 0 (1 + within_in weight rest (n - width c))
  past_char c n rest =
      let l = led c in
      let s = scalar_led c in
      let same = sym l.bytes ∙ s.bytes in
      let lead : one_lead l.lead ≡ 1 = ap (λ bs. one_lead (get_or bs 0 0)) same ∙ s.weighs in
      let trail = subst (Weightless one_lead) (sym (ap (drop 1) same)) s.rest in
      rw l.bytes (grind (arith, nat_tests, l.weighs, lead, weightless-front l.trail rest (n - width c) l.rest trail))

  text-front : (cs : List ℕ) (n : ℕ) → within_in weight (encodes cs) n ≡ within width cs n
  text-front [] n = refl
  text-front (c ∷ cs) n = past_char c n (encodes cs) ∙ ap (λ k. cond (nat_lt n (width c)) 0 (1 + k)) (text-front cs (n - width c))

  pub front-of : (bytes text : List ℕ) (n : ℕ) → IsUtf8 text → bytes ≡ text → within_in weight bytes n ≡ within width (chars text) n
  front-of bytes text n u e = ap (λ k. within_in weight k n) (e ∙ sym (encodes-chars text u)) ∙ text-front (chars text) n

-- all that take no more
all-within : (width : ℕ → ℕ) (cs : List ℕ) (n : ℕ) → total_width width cs ≤ n → within width cs n ≡ length cs
all-within width [] n h = refl
all-within width (c ∷ cs) n h = grind (arith, nat_tests, all-within width cs (n - width c) (omega (arith, h)))

pub all_in_front : (bytes text : List ℕ) (n : ℕ) → IsUtf8 text → bytes ≡ text → length bytes ≤ n → total_width one_lead bytes ≡ within utf8_width (chars text) n
all_in_front bytes text n u e h =
    let long = ap length (e ∙ sym (encodes-chars text u)) ∙ encodes-width (chars text) in
    scalars_of_text bytes text u e ∙ sym (all-within utf8_width (chars text) n (omega (arith, long, h)))

-- trailing bytes cut, and passed
cut-trail : (trail rest : List ℕ) (n : ℕ) → n ≤ length trail → Weightless one_lead trail → total_width one_lead (take n (trail ++ rest)) ≡ 0
cut-trail trail rest zero h k = refl
cut-trail [] rest (suc m) h k = absurd (omega (arith, h))
cut-trail (b ∷ bs) rest (suc m) h k = omega (arith, k.0, cut-trail bs rest m (omega (arith, h)) k.1)

past-trail : (trail rest : List ℕ) (n : ℕ) → Weightless one_lead trail
    → total_width one_lead (take (length trail + n) (trail ++ rest)) ≡ total_width one_lead (take n rest)
past-trail [] rest n k = grind arith
past-trail (b ∷ bs) rest n k =
    let next : length (b ∷ bs) + n ≡ suc (length bs + n) = omega arith in
    omega (arith, ap (λ j. total_width one_lead (take j (b ∷ bs ++ rest))) next, k.0, past-trail bs rest n k.1)

-- those before the one that has byte n, and that one
cut-within : (cs : List ℕ) (n : ℕ) → n < length (encodes cs) → total_width one_lead (take (suc n) (encodes cs)) ≡ 1 + within utf8_width cs n
cut-within [] n h = absurd (omega (arith, h))
cut-within (c ∷ cs) n h =
    let s = scalar_led c in
    let rest = encodes cs in
    let wide : utf8_width c ≡ 1 + length s.trail = omega (arith, length-encode c, ap length s.bytes) in
    let first : total_width one_lead (take (suc n) (encode c ++ rest)) ≡ one_lead s.lead + total_width one_lead (take n (s.trail ++ rest)) =
    ap (λ bs. total_width one_lead (take (suc n) (bs ++ rest))) s.bytes in
    by_test (nat_lt n (utf8_width c))
    (λ t. let cut = cut-trail s.trail rest n (omega (arith, ltb-true n (utf8_width c) t, wide)) s.rest in
    rw t (omega (arith, first, s.weighs, cut)))
    (λ t. let more = n - utf8_width c in
    let all : n ≡ length s.trail + suc more = omega (arith, ltb-false n (utf8_width c) t, wide) in
    let past = ap (λ k. total_width one_lead (take k (s.trail ++ rest))) all ∙ past-trail s.trail rest (suc more) s.rest in
    let left = cut-within cs more (omega (arith, h, all, wide, length-append (encode c) rest, length-encode c)) in
    rw t (omega (arith, first, s.weighs, past, left)))

pub cut_in_front : (bytes text : List ℕ) (n : ℕ) → IsUtf8 text → bytes ≡ text → n < length bytes
    → total_width one_lead (take (n + 1) bytes) ≡ 1 + within utf8_width (chars text) n
cut_in_front bytes text n u e h =
    let same = e ∙ sym (encodes-chars text u) in
    let more : n + 1 ≡ suc n = omega arith in
    ap (λ bs. total_width one_lead (take (n + 1) bs)) same
    ∙ ap (λ k. total_width one_lead (take k (encodes (chars text)))) more
    ∙ cut-within (chars text) n (omega (arith, h, ap length same))
