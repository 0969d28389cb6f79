-- How long items are that are taken in bulk.
use Rattle.std.proofs.Common.{◌≡◌, ℕ, ◌+◌, ◌<◌, ◌≤◌, List, [], ◌∷◌, ◌++◌, length, length-append, ℤ, pos, ◌+ℤ◌, ◌-ℤ◌, refl, append_assoc, fold, arith, ◌⊎◌, inl}
use Rattle.std.proofs.Common.{inr}
use Rattle.decoder_core.proofs.Prelude.{ints, encode, chars, encode_utf8_all, IsUtf8, length-encode, chars_past_char, Stride, One, width_of, run_width}
use Rattle.decoder_core.proofs.Prelude.{plain_to, fold-append, Collected, collect_item, collect_one, Shown}
use Rattle.decoder_core.specs.declared.bulk.Stride.TheVariants.{Utf8}

pub utf8-width : (cs : List ℕ) → run_width Utf8 cs ≡ length (encode_utf8_all cs)
utf8-width [] = refl
utf8-width (c ∷ cs) = rw (utf8-width cs, length-append, length-encode)

-- the two ranges of scalar values
pub narrow : (c : ℕ) → (c < 55296) ⊎ ((57344 ≤ c) × (c < 1114112)) → (c < 55296) ⊎ (57344 ≤ c)
narrow c (inl l) = inl l
narrow c (inr l) = inr l.0

pub most : (c : ℕ) → (c < 55296) ⊎ ((57344 ≤ c) × (c < 1114112)) → c < 1114112
most c (inl l) = Prim.omega (arith, l)
most c (inr l) = l.1

-- the first code point of a text, and the others
pub width-first : (stride : Stride) (text rest : List ℕ) (c : ℕ) → IsUtf8 text → text ≡ encode c ++ rest
    → run_width stride (chars text) ≡ width_of stride c + run_width stride (chars rest)
width-first stride text rest c valid parts = rw (chars_past_char text rest c valid parts)

-- the item that comes next where a text's code points are collected
abbrev pub next-item : {S : Type 0} → Stride → ℤ → S → ℕ → List ℕ → Shown S
next-item stride end after c cs = record { item = One c; end = end -ℤ pos (run_width stride cs); after = after }

pub next-whole : {S : Type 0} (stride : Stride) (end : ℤ) (after : S) (text rest : List ℕ) (c : ℕ) (front whole : List (Shown S))
    → IsUtf8 text → text ≡ encode c ++ rest → whole ≡ front ++ plain_to stride end after (chars text)
    → whole ≡ (front ++ next-item stride end after c (chars rest) ∷ []) ++ plain_to stride end after (chars rest)
next-whole stride end after text rest c front whole valid parts whole_is =
    let next : (end -ℤ pos (width_of stride c + run_width stride (chars rest))) +ℤ pos (width_of stride c) ≡ end -ℤ pos (run_width stride (chars rest)) =
    Prim.omega (arith, ints) in
    rw (whole_is, chars_past_char text rest c valid parts, next, append_assoc)

pub next-seen : {S : Type 0} (stride : Stride) (end : ℤ) (after : S) (rest : List ℕ) (c given left : ℕ) (old now new : Collected) (front : List (Shown S))
    → now ≡ fold collect_one old front → left ≡ run_width stride (chars rest) → given ≡ c → new ≡ collect_item now (One given) (end -ℤ pos left)
    → new ≡ fold collect_one old (front ++ next-item stride end after c (chars rest) ∷ [])
next-seen stride end after rest c given left old now new front now_is left_is same new_is = rw (new_is, same, left_is, now_is, fold-append)
