-- Widths of texts.
use Rattle.std.proofs.Common.{take-append-drop, drop, ℕ, ◌≡◌, refl, sym, ap, ◌∙◌, ◌+◌, ◌<◌, ◌≤◌, List, [], ◌∷◌, ◌++◌, length, length-append, take, arith}
use Rattle.lemmas.proofs.Recursion.{sum-append, sum-ones}
use Rattle.position_map.proofs.Words.{chars, IsUtf8, encode, encodes, nat_tests, encodes-chars, length-encode, TextUnit, Utf8, Utf16, Utf32, width, width_of}

pub width-some : (u : TextUnit) (c : ℕ) → 0 < width_of u c
width-some Utf8 c = grind (arith, nat_tests)
width-some Utf16 c = grind (arith, nat_tests)
width-some Utf32 c = omega arith

pub width-append : (u : TextUnit) (xs ys : List ℕ) → width u (xs ++ ys) ≡ width u xs + width u ys
width-append u = sum-append (width u) _ refl (λ _ _. refl)

pub width-take_le : (u : TextUnit) (cs : List ℕ) (k : ℕ) → width u (take k cs) ≤ width u cs
width-take_le u cs k = omega (arith, ap (width u) (take-append-drop k cs), width-append u (take k cs) (drop k cs))

pub width-scalars : (cs : List ℕ) → width Utf32 cs ≡ length cs
width-scalars = sum-ones (width Utf32) refl (λ _ _. refl)

-- the bytes of a text are its width in UTF-8
pub width-encodes : (cs : List ℕ) → length (encodes cs) ≡ width Utf8 cs
width-encodes [] = refl
width-encodes (c ∷ cs) = length-append (encode c) (encodes cs) ∙ ap (λ n. n + length (encodes cs)) (length-encode c)
    ∙ ap (λ n. width_of Utf8 c + n) (width-encodes cs)

pub width-bytes : (bs : List ℕ) → IsUtf8 bs → width Utf8 (chars bs) ≡ length bs
width-bytes bs u = sym (width-encodes (chars bs)) ∙ ap length (encodes-chars bs u)

-- an ASCII character takes one of each unit
pub width-ascii : (u : TextUnit) (c : ℕ) → c < 128 → width_of u c ≡ 1
width-ascii Utf8 c h = grind (arith, nat_tests)
width-ascii Utf16 c h = grind (arith, nat_tests)
width-ascii Utf32 c h = refl
