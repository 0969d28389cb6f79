-- Places along a text by units.
use Rattle.std.proofs.Common.{ℕ, ◌≡◌, refl, sym, ap, ◌∙◌, zero, suc, ◌+◌, ◌-◌, ◌<◌, ◌≤◌, ◌==◌, nat_lt, length-drop, take, take-append-drop, append_assoc}
use Rattle.std.proofs.{Common.add-one, lemmas.Iterator.Adapters.option_map_id}
use Rattle.position_map.proofs.Words.{◌⊎◌, inl, inr, true, false, List, [], ◌∷◌, ◌++◌, length, drop, arith, Option, Some, None, zero-add, map_some, option_map}
use Rattle.position_map.proofs.Words.{nat_tests, length-take-le, take-take, drop-take, TextUnit, width, width_of, along, between, by_le, same_some, none_some}
use Rattle.position_map.proofs.Widths.{width-some, width-append}

-- after a whole code point
pub along_step : (u : TextUnit) (c : ℕ) (cs : List ℕ) (n : ℕ) → width_of u c ≤ n → along u (c ∷ cs) n ≡ option_map (λ k. k + 1) (along u cs (n - width_of u c))
along_step u c cs n h =
    let some : 0 < n = omega (arith, width-some u c) in
    let z : (n == 0) ≡ false = grind (arith, nat_tests) in let t : nat_lt n (width_of u c) ≡ false = grind (arith, nat_tests) in rw (z, t) refl

-- the last of the units is inside the first one
pub along_inside : (u : TextUnit) (c : ℕ) (cs : List ℕ) (n : ℕ) → 0 < n → n < width_of u c → along u (c ∷ cs) n ≡ None
along_inside u c cs n some h =
    let z : (n == 0) ≡ false = grind (arith, nat_tests) in let t : nat_lt n (width_of u c) ≡ true = grind (arith, nat_tests) in rw (z, t) refl

map_map : (f g h : ℕ → ℕ) → ((k : ℕ) → f (g k) ≡ h k) → (o : Option ℕ) → option_map f (option_map g o) ≡ option_map h o
map_map f g h e None = refl
map_map f g h e (Some k) = ap Some (e k)

-- the search may begin after whole code points
pub along-append : (u : TextUnit) (a b : List ℕ) (n : ℕ) → along u (a ++ b) (width u a + n) ≡ option_map (λ k. length a + k) (along u b n)
along-append u [] b n = simp (zero-add, option_map_id)
along-append u (c ∷ cs) b n =
    let less : width u (c ∷ cs) + n - width_of u c ≡ width u cs + n = omega arith in
    rw (along_step u c (cs ++ b) (width u (c ∷ cs) + n) (omega arith), less, along-append u cs b n)
    (map_map (λ k. k + 1) (λ k. length cs + k) (λ k. length (c ∷ cs) + k) (λ k. omega arith) (along u b n))

-- what follows doesn't count
pub along_within : (u : TextUnit) (a b : List ℕ) (n : ℕ) → n < width u a → along u (a ++ b) n ≡ along u a n
along_within u [] b n h = absurd (omega arith)
along_within u (c ∷ cs) b n h =
    by_le (width_of u c) n
    (λ more. rw (along_step u c (cs ++ b) n more, along_step u c cs n more, along_within u cs b (n - width_of u c) (omega arith)) refl)
    (λ less. let t : nat_lt n (width_of u c) ≡ true = grind (arith, nat_tests) in rw t refl)

-- past the text is its end
pub along_past : (u : TextUnit) (a : List ℕ) (n : ℕ) → width u a ≤ n → along u a n ≡ Some (length a)
along_past u [] n h = refl
along_past u (c ∷ cs) n h =
    rw (along_step u c cs n (omega arith), along_past u cs (n - width_of u c) (omega arith)) (ap Some (omega arith))

-- no units are the text's start
pub along_none : (u : TextUnit) (cs : List ℕ) → along u cs 0 ≡ Some 0
along_none u [] = refl
along_none u (c ∷ cs) = refl

-- a front is found by its width
pub along_front : (u : TextUnit) (a b : List ℕ) → along u (a ++ b) (width u a) ≡ Some (length a)
along_front u a b =
    let e : width u a ≡ width u a + 0 = omega arith in
    ap (along u (a ++ b)) e ∙ rw (along-append u a b 0, along_none u b) (ap Some (omega arith))

-- code points in the middle of a text
pub segment : (text : List ℕ) (s e : ℕ) → s ≤ e → take e text ≡ take s text ++ between text s e
segment text s e h =
    let to : s + (e - s) ≡ e = omega arith in
    sym (take-append-drop s (take e text)) ∙ rw (take-take s e text h, ← drop-take s (e - s) text, to) refl

pub line_width : (u : TextUnit) (text : List ℕ) (s e : ℕ) → s ≤ e → width u (take e text) ≡ width u (take s text) + width u (between text s e)
line_width u text s e h = rw (segment text s e h) (width-append u (take s text) (between text s e))

pub along_line : (u : TextUnit) (text : List ℕ) (s e n : ℕ) → s ≤ e → e ≤ length text → width u (take s text) + n < width u (take e text)
    → along u text (width u (take s text) + n) ≡ option_map (λ k. s + k) (along u (between text s e) n)
along_line u text s e n h g l =
    let within : n < width u (between text s e) = omega (arith, line_width u text s e h) in
    let cut : text ≡ take s text ++ (between text s e ++ drop e text) =
    sym (take-append-drop e text) ∙ rw (segment text s e h) (append_assoc (take s text) (between text s e) (drop e text)) in
    ap (λ t. along u t (width u (take s text) + n)) cut ∙ along-append u (take s text) (between text s e ++ drop e text) n
    ∙ rw (length-take-le s text (omega arith), along_within u (between text s e) (drop e text) n within) refl

pub past_line : (u : TextUnit) (text : List ℕ) (s e n : ℕ) → s ≤ e → e ≤ length text → width u (take e text) ≤ width u (take s text) + n
    → option_map (λ k. s + k) (along u (between text s e) n) ≡ Some e
past_line u text s e n h g l =
    let len = length-take-le (e - s) (drop s text) (omega (arith, length-drop s text)) in
    rw (along_past u (between text s e) n (omega (arith, line_width u text s e h))) (ap Some (omega (arith, len)))

-- a place along a text: the first k code points take just n units, or all take fewer
pub record IsPlaceAlong (u : TextUnit) (cs : List ℕ) (n k : ℕ) : Type 0 where
  pub within : k ≤ length cs
  pub exact : (n ≡ width u (take k cs)) ⊎ (width u cs < n)

pub along_place : (u : TextUnit) (cs : List ℕ) (n k : ℕ) → along u cs n ≡ Some k → IsPlaceAlong u cs n k
along_place u cs zero k e =
    let z : 0 ≡ k = same_some (sym (along_none u cs) ∙ e) in record { within = omega (arith, z); exact = inl (ap (λ j. width u (take j cs)) z) }
along_place u [] (suc n) k e = let z : 0 ≡ k = same_some e in record { within = omega (arith, z); exact = inr (omega arith) }
along_place u (c ∷ cs) (suc n) k e =
    by_le (width_of u c) (suc n)
    (λ le. let w = map_some (λ j. j + 1) (along u cs (suc n - width_of u c)) k (sym (along_step u c cs (suc n) le) ∙ e) in
    let rest = along_place u cs (suc n - width_of u c) w.0 w.1 in
    let same : width_of u c + width u (take w.0 cs) ≡ width u (take k (c ∷ cs)) = ap (λ j. width u (take j (c ∷ cs))) (sym (add-one w.0) ∙ w.2) in
    record {
      within = omega (arith, w.2, rest.within);
      exact = elim rest.exact [ inl h ↦ inl (omega (arith, h, same, le)) | inr h ↦ inr (omega (arith, h)) ];
    })
    (λ lt. absurd (none_some (sym (along_inside u c cs (suc n) (omega arith) lt) ∙ e)))
