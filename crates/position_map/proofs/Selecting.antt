-- What the searches for code points and units find is a place along the text.
use Rattle.std.proofs.Common.{ℕ, ◌≡◌, refl, sym, ap, ◌∙◌, ◌+◌, ◌-◌, ◌<◌, ◌≤◌, inl, inr, Bool, true, false, ◌==◌, nat_lt, List, [], ◌∷◌, take, take-append-drop}
use Rattle.std.{proofs.Common.add-one, specs.Prelude.IsTrue, specs.Prelude.◌↔◌}
use Rattle.position_map.proofs.Words.{◌++◌, length, drop, arith, Option, Some, None, chars, IsUtf8, IsCharBoundary, nat_tests, length-take-le, chars-append}
use Rattle.position_map.proofs.Words.{IsUtf8-take, selected, moved, TextUnit, Utf8, Utf16, Utf32, width, along, IsAlongFront, IsScalarCut, by_test}
use Rattle.lane_utf.specs.declared.select.Select.{Select, TheVariants.At, TheVariants.Inside, TheVariants.Past}
use Rattle.lane_utf.specs.Widths.{utf16_width, utf8_width}
use Rattle.position_map.proofs.{Alongs.along_step, Alongs.along_front, Alongs.along_place, Widths.width-scalars, Widths.width-bytes, Widths.width-encodes}
use Rattle.lemmas.proofs.Texts.{IsCut, IsCut-at}

-- the kernel's answer and the place along the text
abbrev Says : List ℕ → ℕ → Select → Type 0
Says cs n (At i) = (k : ℕ) × (along Utf16 cs n ≡ Some k) × (k ≤ length cs) × (i ≡ width Utf8 (take k cs))
Says cs n Inside = along Utf16 cs n ≡ None
Says cs n Past = width Utf16 cs < n

moved_says : (c : ℕ) (cs : List ℕ) (n : ℕ) (r : Select) → utf16_width c ≤ n → Says cs (n - utf16_width c) r → Says (c ∷ cs) n (moved (utf8_width c) r)
moved_says c cs n (At i) h s =
    let wide : i ≡ width Utf8 (take s.0 cs) = s.3 in
    (s.0 + 1, rw (along_step Utf16 c cs n h, s.1) refl, omega (arith, s.2), rw (add-one s.0, wide) refl)
moved_says c cs n Inside h s = rw (along_step Utf16 c cs n h, s) refl
moved_says c cs n Past h s = omega (arith, s, h)

selected_says : (cs : List ℕ) (n : ℕ) → Says cs n (selected utf16_width cs n)
selected_says [] n = by_test (n == 0) (λ t. rw t (0, refl, omega arith, refl)) (λ t. let some : 0 < n = grind (arith, nat_tests) in rw t some)
selected_says (c ∷ cs) n =
    by_test (n == 0)
    (λ t. rw t (0, rw t refl, omega arith, refl))
    (λ t. by_test (nat_lt n (utf16_width c))
    (λ l. rw (t, l) (rw (t, l) refl))
    (λ l. let h : utf16_width c ≤ n = grind (arith, nat_tests) in
    rw (t, l) (moved_says c cs n (selected utf16_width cs (n - utf16_width c)) h (selected_says cs (n - utf16_width c)))))

-- a cut at a width in bytes
cut-at : (text : List ℕ) (k at : ℕ) → IsUtf8 text → at ≡ width Utf8 (take k (chars text)) → IsCut text k at
cut-at text k at u w = IsCut-at text k at u (w ∙ sym (width-encodes (take k (chars text))))

-- the bytes before the one that the search gives
pub selected_cut : (text : List ℕ) (n at : ℕ) → IsUtf8 text → At at ≡ selected utf16_width (chars text) n
    → (k : ℕ) × (along Utf16 (chars text) n ≡ Some k) × (k ≤ length (chars text)) × IsCut text k at
selected_cut text n at u e =
    let s = rw (← e) at (selected_says (chars text) n) in
    (s.0, s.1, s.2, cut-at text s.0 at u s.3)

pub selected_inside : (text : List ℕ) (n : ℕ) → Inside ≡ selected utf16_width (chars text) n → along Utf16 (chars text) n ≡ None
selected_inside text n e = rw (← e) at (selected_says (chars text) n)

pub selected_past : (text : List ℕ) (n : ℕ) → Past ≡ selected utf16_width (chars text) n → width Utf16 (chars text) < n
selected_past text n e = rw (← e) at (selected_says (chars text) n)

-- a cut at the place along the text
pub front_at : (u : TextUnit) (text front : List ℕ) (n k at : ℕ) → along u (chars text) n ≡ Some k → k ≤ length (chars text) → IsCut text k at
    → front ≡ take at text → IsAlongFront u (chars text) n (chars front)
front_at u text front n k at a within c e =
    let first : chars front ≡ take k (chars text) = rw e c.front in
    record {
      back = drop k (chars text);
      split = rw (first, take-append-drop k (chars text)) refl;
      along = rw (first, length-take-le k (chars text) within) a;
    }

-- a cut before code point n
pub scalars_along : (cs front back : List ℕ) (n : ℕ) → IsScalarCut cs n front back → IsAlongFront Utf32 cs n front
scalars_along cs front back n c =
    let wide : n ≡ width Utf32 front = sym (width-scalars front ∙ c.count) in
    record { back = back; split = c.split; along = rw (wide, c.split) (along_front Utf32 front back) }

-- a cut between the bytes of code points
pub bytes_at : (text front : List ℕ) (n : ℕ) → IsUtf8 text → IsCharBoundary text n → front ≡ take n text → IsAlongFront Utf8 (chars text) n (chars front)
bytes_at text front n u cut e =
    let uf : IsUtf8 front = rw e (IsUtf8-take text n u cut) in
    let both : chars text ≡ chars front ++ chars (drop n text) =
    ap chars (sym (take-append-drop n text) ∙ ap (λ t. t ++ drop n text) (sym e)) ∙ chars-append front (drop n text) uf in
    let wide : n ≡ width Utf8 (chars front) = sym (width-bytes front uf ∙ ap length e ∙ length-take-le n text cut.0) in
    record {
      back = chars (drop n text);
      split = both;
      along = rw both (ap (along Utf8 (chars front ++ chars (drop n text))) wide ∙ along_front Utf8 (chars front) (chars (drop n text)));
    }

by_option : (o : Option ℕ) → ((k : ℕ) → o ≡ Some k → ⊥) → o ≡ None
by_option None h = refl
by_option (Some k) h = absurd (h k refl)

-- where the test says that no code point is cut at n, and the text has n bytes
pub inside_by : (text : List ℕ) (n : ℕ) (b : Bool) → IsUtf8 text → (IsTrue b ↔ IsCharBoundary text n) → b ≡ false → n ≤ length text
    → along Utf8 (chars text) n ≡ None
inside_by text n b u t off h =
    by_option (along Utf8 (chars text) n) (λ k e.
    let p = along_place Utf8 (chars text) n k e in
    elim p.exact [
      | inl w ↦ let is : b ≡ true = t.1 (cut-at text k n u w).boundary in cc
      | inr w ↦ omega (arith, w, width-bytes text u, h)
    ])

pub past_bytes : (text : List ℕ) (n : ℕ) → IsUtf8 text → length text < n → width Utf8 (chars text) < n
past_bytes text n u h = omega (arith, width-bytes text u, h)
