-- Writes at the end of what was written so far.
use Rattle.std.proofs.Common.{◌≡◌, refl, sym, ap, ap₂, subst, ◌∙◌, ℕ, zero, suc, ◌+◌, ◌-◌, ◌/◌, ◌%◌, ◌<◌, ◌≤◌, List, [], ◌∷◌, ◌++◌, length, take, drop, arith}
use Rattle.std.proofs.Common.{slice_set, append_assoc, append-nil, length-append, length-take-le, lt-ltb, le-ltb, take-append-drop, take-take, drop-drop}
use Rattle.std.proofs.{Math.Seq.take-append-add, Math.Seq.take-length, Math.Utf8.encode, lemmas.Simd.put_chunk_is, lemmas.Simd.take_more_put_chunk}
use Rattle.std.{proofs.lemmas.Slice.drop-append-drop, specs.Simd.Lanes.put_chunk}
use Rattle.lane_utf.specs.{Utf16.utf16_form, Writing.IsWriting}

put_none : (at : ℕ) (bytes : List ℕ) → put_chunk at bytes [] ≡ bytes
put_none zero (x ∷ xs) = refl
put_none (suc at) (x ∷ xs) = ap (λ k. x ∷ k) (put_none at xs)
put_none at bytes = refl

-- one write before the others
put_first : (at y : ℕ) (bytes ys : List ℕ) → put_chunk at bytes (y ∷ ys) ≡ put_chunk (suc at) (slice_set bytes at y) ys
put_first zero y (x ∷ xs) ys = refl
put_first (suc at) y (x ∷ xs) ys = ap (λ k. x ∷ k) (put_first at y xs ys)
put_first at y bytes ys = refl

-- two lists in a row
pub put_append : (at n : ℕ) (bytes xs ys : List ℕ) → n ≡ at + length xs → put_chunk at bytes (xs ++ ys) ≡ put_chunk n (put_chunk at bytes xs) ys
put_append at n bytes [] ys e =
    let same : n ≡ at = omega arith in
    rw (same, put_none at bytes) refl
put_append at n bytes (x ∷ xs) ys e =
    put_first at x bytes (xs ++ ys) ∙ put_append (suc at) n (slice_set bytes at x) xs ys (omega arith)
    ∙ ap (λ b. put_chunk n b ys) (sym (put_first at x bytes xs))

-- writes in a row
put_more : (at n y : ℕ) (bytes ys : List ℕ) → n ≡ at + length ys → slice_set (put_chunk at bytes ys) n y ≡ put_chunk at bytes (ys ++ y ∷ [])
put_more at n y bytes ys e = sym (put_append at n bytes ys (y ∷ []) e ∙ put_first n y (put_chunk at bytes ys) [] ∙ put_none (suc n) _)

pub one_put : (at w : ℕ) (bytes : List ℕ) → slice_set bytes at w ≡ put_chunk at bytes (w ∷ [])
one_put at w bytes = sym (put_first at w bytes [] ∙ put_none (suc at) _)

pub two_put : (at w x : ℕ) (bytes : List ℕ) → slice_set (slice_set bytes at w) (at + 1) x ≡ put_chunk at bytes (w ∷ x ∷ [])
two_put at w x bytes = ap (λ b. slice_set b (at + 1) x) (one_put at w bytes) ∙ put_more at (at + 1) x bytes _ refl

pub three_put : (at w x y : ℕ) (bytes : List ℕ) → slice_set (slice_set (slice_set bytes at w) (at + 1) x) (at + 2) y ≡ put_chunk at bytes (w ∷ x ∷ y ∷ [])
three_put at w x y bytes = ap (λ b. slice_set b (at + 2) y) (two_put at w x bytes) ∙ put_more at (at + 2) y bytes _ refl

pub four_put : (at w x y z : ℕ) (bytes : List ℕ)
    → slice_set (slice_set (slice_set (slice_set bytes at w) (at + 1) x) (at + 2) y) (at + 3) z ≡ put_chunk at bytes (w ∷ x ∷ y ∷ z ∷ [])
four_put at w x y z bytes = ap (λ b. slice_set b (at + 3) z) (three_put at w x y bytes) ∙ put_more at (at + 3) z bytes _ refl

pub encode_two : (c : ℕ) → 128 ≤ c → c < 2048 → encode c ≡ (192 + c / 64) ∷ (128 + c % 64) ∷ []
unfolding encode
encode_two c l h = rw (le-ltb c 128 l, lt-ltb c 2048 h) refl

pub encode_three : (c : ℕ) → 2048 ≤ c → c < 65536 → encode c ≡ (224 + c / 4096) ∷ (128 + c / 64 % 64) ∷ (128 + c % 64) ∷ []
unfolding encode
encode_three c l h = rw (le-ltb c 128 (omega arith), le-ltb c 2048 l, lt-ltb c 65536 h) refl

pub encode_four : (c : ℕ) → 65536 ≤ c → encode c ≡ (240 + c / 262144) ∷ (128 + c / 4096 % 64) ∷ (128 + c / 64 % 64) ∷ (128 + c % 64) ∷ []
unfolding encode
encode_four c l = rw (le-ltb c 128 (omega arith), le-ltb c 2048 (omega arith), le-ltb c 65536 l) refl

-- The first m items of a list are written, and those after them are still to come.
pub front_goes_on : {whole out old tail : List ℕ} {written : ℕ} (ys rest new : List ℕ) (m end : ℕ) → IsWriting whole written out old tail
    → length whole ≤ length out → tail ≡ take m ys ++ rest → m ≤ length ys → length ys ≤ length tail → end ≡ written + m
    → new ≡ put_chunk written out ys → IsWriting whole end new old rest
front_goes_on {whole} {out} {old} {tail} {written} ys rest new m end w room e some wide at is =
    let long : length tail ≡ m + length rest = ap length e ∙ length-append (take m ys) rest ∙ ap (λ n. n + length rest) (length-take-le m ys some) in
    let fits : written + length ys ≤ length out = omega (arith, w.count, wide, room) in
    let seen = take written out in
    let so_long : length seen ≡ written = length-take-le written out (omega (arith, fits)) in
    let front : take end new ≡ seen ++ take m ys =
    ap₂ take at is ∙ sym (take-take (written + m) (written + length ys) (put_chunk written out ys) (omega (arith, some)))
    ∙ ap (take (written + m)) (take_more_put_chunk written out ys _ refl fits)
    ∙ subst (λ n. take (n + m) (seen ++ ys) ≡ seen ++ take m ys) so_long (take-append-add seen ys m) in
    let behind : new ≡ (seen ++ ys) ++ drop (written + length ys) out =
    is ∙ put_chunk_is written out ys fits ∙ sym (append_assoc seen ys _) ∙ ap (λ k. (seen ++ ys) ++ k) (drop-drop (length ys) written out) in
    record {
      so_far = ap (λ t. t ++ rest) front ∙ append_assoc seen (take m ys) rest ∙ ap (λ t. seen ++ t) (sym e) ∙ w.so_far;
      count = omega (arith, w.count, long, at);
      kept = ap (drop (length whole)) behind
          ∙ drop-append-drop (written + length ys) out (seen ++ ys) (length whole) (omega (arith, w.count, wide))
          (length-append seen ys ∙ ap (λ n. n + length ys) so_long) ∙ w.kept;
    }

pub writing_goes_on : {whole out old tail : List ℕ} {written : ℕ} (ys rest new : List ℕ) (end : ℕ) → IsWriting whole written out old tail
    → length whole ≤ length out → tail ≡ ys ++ rest → end ≡ written + length ys → new ≡ put_chunk written out ys → IsWriting whole end new old rest
writing_goes_on {tail = tail} ys rest new end w room e at is =
    front_goes_on ys rest new (length ys) end w room (e ∙ ap (λ k. k ++ rest) (sym (take-length ys))) (omega arith)
    (omega (arith, ap length e, length-append ys rest)) at is

pub writing_room : {whole out old tail : List ℕ} {written : ℕ} (ys rest : List ℕ) → IsWriting whole written out old tail → tail ≡ ys ++ rest
    → written + length ys ≤ length whole
writing_room ys rest w e = omega (arith, w.count, ap length e, length-append ys rest)

pub writing_done : {whole out old tail : List ℕ} {written : ℕ} → IsWriting whole written out old tail → tail ≡ [] → out ≡ whole ++ drop (length whole) old
writing_done {whole} {out} {old} {tail} {written} w e =
    let all : take written out ≡ whole = sym (append-nil (take written out)) ∙ ap (λ t. take written out ++ t) (sym e) ∙ w.so_far in
    let end : written ≡ length whole = omega (arith, w.count, ap length e) in
    sym (take-append-drop written out) ∙ ap (λ t. t ++ drop written out) all ∙ ap (λ t. whole ++ t) (ap (λ k. drop k out) end ∙ w.kept)

-- a code point's units are written
pub form_low : (c : ℕ) → c < 65536 → utf16_form c ≡ c ∷ []
form_low c h = rw (lt-ltb c 65536 h) refl

pub form_high : (c : ℕ) → 65536 ≤ c → utf16_form c ≡ (0xD800 + (c - 0x10000) / 0x400) ∷ (0xDC00 + (c - 0x10000) % 0x400) ∷ []
form_high c l = rw (le-ltb c 65536 l) refl
