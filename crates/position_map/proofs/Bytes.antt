-- A text cut in front of a mark of its bytes, or behind its last line end.
use Rattle.std.proofs.Common.{ℕ, ◌≡◌, refl, sym, ap, ◌∙◌, ◌+◌, ◌<◌, ◌≤◌, Bool, true, false, List, ◌∷◌, ◌++◌, take, drop, get_or, take-append-drop, arith}
use Rattle.position_map.proofs.Words.{chars, IsUtf8, IsCharBoundary, nat_tests, drop_more, encode_ascii, chars-append, chars_past_char, IsUtf8-take}
use Rattle.position_map.proofs.Words.{IsUtf8-drop, IsCharBoundary-before_ascii, IsCharBoundary-after_ascii, is_mark, marks, ends_cr, IsNthMark}
use Rattle.position_map.proofs.Words.{IsLastEnd, IsLastLine, IsMarkCut}

-- a text that begins with an ASCII byte begins with that character
first_ascii : (b : ℕ) (rest : List ℕ) → IsUtf8 (b ∷ rest) → b < 128 → chars (b ∷ rest) ≡ b ∷ chars rest
first_ascii b rest u h = chars_past_char (b ∷ rest) rest b u (ap (λ t. t ++ rest) (sym (encode_ascii b h)))

pub mark_low : (f : Bool) (b : ℕ) → is_mark f b ≡ true → b < 128
mark_low f b h = grind (arith, nat_tests)

pub mark_boundary : (f : Bool) (text bytes : List ℕ) (n at : ℕ) → bytes ≡ text → IsNthMark f bytes n at → IsCharBoundary text at
mark_boundary f text bytes n at e m =
    let k : IsNthMark f text n at = rw e at m in
    IsCharBoundary-before_ascii text at k.within (mark_low (ends_cr f (take at text)) (get_or text at 0) k.is)

pub end_boundary : (text bytes : List ℕ) (at : ℕ) → IsUtf8 text → bytes ≡ text → IsLastEnd bytes at → IsCharBoundary text (at + 1)
end_boundary text bytes at u e m =
    let k : IsLastEnd text at = rw e at m in
    IsCharBoundary-after_ascii text at u k.within (mark_low false (get_or text at 0) k.is)

-- where the marks of a text's bytes are those of its code points
module _ (marks-bytes : (f : Bool) (bs : List ℕ) → IsUtf8 bs → marks f bs ≡ marks f (chars bs)) (ends-bytes : (f : Bool) (bs : List ℕ)
    → IsUtf8 bs → ends_cr f bs ≡ ends_cr f (chars bs)) where
  pub no_mark_cut : (f : Bool) (text bytes : List ℕ) (n : ℕ) → IsUtf8 text → bytes ≡ text → marks f bytes ≤ n → marks f (chars text) ≤ n
  no_mark_cut f text bytes n u e h = omega (arith, marks-bytes f text u, ap (marks f) e, h)

  pub mark_cut_at : (f : Bool) (text bytes front back : List ℕ) (n at : ℕ) → IsUtf8 text → bytes ≡ text → IsNthMark f bytes n at
      → front ≡ take at text → back ≡ drop at text → IsMarkCut f (chars text) n (chars front) (chars back)
  mark_cut_at f text bytes front back n at u e k ef eb =
      let m : IsNthMark f text n at = rw e at k in
      let b = get_or text at 0 in
      let low : b < 128 = mark_low (ends_cr f (take at text)) b m.is in
      let cut : IsCharBoundary text at = IsCharBoundary-before_ascii text at m.within low in
      let uf : IsUtf8 front = rw ef (IsUtf8-take text at u cut) in
      let more : drop at text ≡ b ∷ drop (at + 1) text = drop_more text at 0 m.within in
      let first : chars back ≡ b ∷ chars (drop (at + 1) text) =
      rw (eb, more) (first_ascii b (drop (at + 1) text) (rw more at (IsUtf8-drop text at u cut)) low) in
      let flag : ends_cr f (chars front) ≡ ends_cr f (take at text) = sym (ends-bytes f front uf) ∙ ap (ends_cr f) ef in
      record {
        split = ap chars (sym (take-append-drop at text) ∙ rw (← ef, ← eb) refl) ∙ chars-append front back uf;
        count = sym (marks-bytes f front uf) ∙ ap (marks f) ef ∙ m.before;
        is = rw (first, flag) m.is;
      }

  pub no_last_line : (text bytes : List ℕ) → IsUtf8 text → bytes ≡ text → marks false bytes ≡ 0 → marks false (chars text) ≡ 0
  no_last_line text bytes u e h = omega (arith, marks-bytes false text u, ap (marks false) e, h)

  pub last_line_at : (text bytes back : List ℕ) (at : ℕ) → IsUtf8 text → bytes ≡ text → IsLastEnd bytes at → back ≡ drop (at + 1) text
      → IsLastLine (chars text) (chars back)
  last_line_at text bytes back at u e k eb =
      let m : IsLastEnd text at = rw e at k in
      let b = get_or text at 0 in
      let low : b < 128 = mark_low false b m.is in
      let cut : IsCharBoundary text at = IsCharBoundary-before_ascii text at m.within low in
      let more : drop at text ≡ b ∷ drop (at + 1) text = drop_more text at 0 m.within in
      let first : chars (drop at text) ≡ b ∷ chars back =
      rw (more, eb) (first_ascii b (drop (at + 1) text) (rw more at (IsUtf8-drop text at u cut)) low) in
      let behind : IsUtf8 back = rw eb (IsUtf8-drop text (at + 1) u (IsCharBoundary-after_ascii text at u m.within low)) in
      record {
        front = chars (take at text);
        c = b;
        split = ap chars (sym (take-append-drop at text)) ∙ rw (chars-append (take at text) (drop at text) (IsUtf8-take text at u cut), first) refl;
        is = m.is;
        none = sym (marks-bytes false back behind) ∙ ap (marks false) eb ∙ m.none;
      }
