-- Runs of UTF-8: each code point is an item, and leaves nothing pending.
use Rattle.std.proofs.Common.{◌≡◌, ℕ, ◌+◌, ◌-◌, ◌*◌, ◌/◌, ◌%◌, ◌<◌, ◌≤◌, true, false, List, [], ◌∷◌, Some, if◌then◌else◌, ◌==◌, take, drop, length, refl, ◌∙◌}
use Rattle.std.{proofs.Common.arith, proofs.Common.◌⊎◌, proofs.Common.inl, proofs.Common.inr, specs.Str.Lossy.utf8_valid_len}
use Rattle.decoder_core.proofs.Prelude.{nat_tests, le-leb, lt-leb, lt-ltb, le-ltb, and_parts, cases_lt, encode, scalar, scalars, scalar_cases, chars}
use Rattle.decoder_core.proofs.Prelude.{encode_utf8_all, IsUtf8, length-take, length-take-le, take-append-drop, take-append-le, encodes-chars, scalars-chars}
use Rattle.decoder_core.proofs.Prelude.{length-encode, utf8_valid_len_le, IsOwnText, One, holds, utf8, utf8_start, utf8_begins, utf8_falls, length-drop}
use Rattle.decoder_core.{proofs.Prelude.take-add, proofs.Prelude.IsUtf8-append, specs.declared.bulk.Stride.TheVariants.Utf8 as by_utf8, specs.Forms.gives}
use Rattle.decoder_core.proofs.ItemWidths.{utf8-width, narrow, most}
use Rattle.decoder_core.proofs.Turning.{Passes, given, held, ArePassed, passed-shown, passed-stays}

-- a lead byte of two
lead_two : (b : ℕ) → 0xC2 ≤ b → b ≤ 0xDF → utf8 utf8_start (Some b) ≡ utf8_begins (b - 0xC0) 1 0x80 0xBF
lead_two b low high = rw (lt-leb b 0x7F (omega (arith, low)), le-leb 0xC2 b low, le-leb b 0xDF high) refl

-- a byte within its boundaries, which is the last or isn't
last : (p seen needed lower upper b c : ℕ) → (needed == 0) ≡ false → (seen + 1 == needed) ≡ true → lower ≤ b → b ≤ upper → 64 * p + (b - 0x80) ≡ c
    → utf8 (record { code_point = p; seen = seen; needed = needed; lower = lower; upper = upper }) (Some b) ≡ gives utf8_start (One c) []
last p seen needed lower upper b c some are low high is = rw (some, le-leb lower b low, le-leb b upper high, are, is) refl

more : (p seen needed lower upper b : ℕ) → (needed == 0) ≡ false → (seen + 1 == needed) ≡ false → lower ≤ b → b ≤ upper
    → utf8 (record { code_point = p; seen = seen; needed = needed; lower = lower; upper = upper }) (Some b)
    ≡ holds (record { code_point = 64 * p + (b - 0x80); seen = seen + 1; needed = needed; lower = 0x80; upper = 0xBF })
more p seen needed lower upper b some are low high = rw (some, le-leb lower b low, le-leb b upper high, are) refl

-- a lead byte of three, and of four
lead_three : (b : ℕ) → 0xE0 ≤ b → b ≤ 0xEF
    → utf8 utf8_start (Some b) ≡ utf8_begins (b - 0xE0) 2 (if b == 0xE0 then 0xA0 else 0x80) (if b == 0xED then 0x9F else 0xBF)
lead_three b low high =
    rw (lt-leb b 0x7F (omega (arith, low)), le-leb 0xC2 b (omega (arith, low)), lt-leb b 0xDF (omega (arith, low)), le-leb 0xE0 b low, le-leb b 0xEF high) refl

lead_four : (b : ℕ) → 0xF0 ≤ b → b ≤ 0xF4
    → utf8 utf8_start (Some b) ≡ utf8_begins (b - 0xF0) 3 (if b == 0xF0 then 0x90 else 0x80) (if b == 0xF4 then 0x8F else 0xBF)
lead_four b low high =
    rw (
      lt-leb b 0x7F (omega (arith, low)),
      le-leb 0xC2 b (omega (arith, low)),
      lt-leb b 0xDF (omega (arith, low)),
      le-leb 0xE0 b (omega (arith, low)),
      lt-leb b 0xEF (omega (arith, low)),
      le-leb 0xF0 b low,
      le-leb b 0xF4 high,
    ) refl

abbrev Passed : List ℕ → ℕ → Type 0
Passed bytes c = Passes utf8_falls utf8_start utf8_start bytes c

two : (c : ℕ) → 128 ≤ c → c < 2048 → Passed ((192 + c / 64) ∷ (128 + c % 64) ∷ []) c
two c low high =
    let first = 192 + c / 64 in
    let second = 128 + c % 64 in
    held utf8_falls (lead_two first (omega arith) (omega arith))
    (given utf8_falls (last (first - 0xC0) 0 1 0x80 0xBF second c refl refl (omega arith) (omega arith) (omega arith)))

three : (c : ℕ) → 2048 ≤ c → c < 65536 → (c < 55296) ⊎ (57344 ≤ c) → Passed ((224 + c / 4096) ∷ (128 + c / 64 % 64) ∷ (128 + c % 64) ∷ []) c
three c low high scalar =
    let first = 224 + c / 4096 in
    let second = 128 + c / 64 % 64 in
    let third = 128 + c % 64 in
    let p2 = 64 * (first - 0xE0) + (second - 0x80) in
    let lower : (if first == 0xE0 then 0xA0 else 0x80) ≤ second = grind (arith, nat_tests) in
    let upper : second ≤ (if first == 0xED then 0x9F else 0xBF) = elim scalar [ inl l ↦ grind (arith, nat_tests, l) | inr l ↦ grind (arith, nat_tests, l) ] in
    held utf8_falls (lead_three first (omega arith) (omega arith))
    (held utf8_falls (more (first - 0xE0) 0 2 _ _ second refl refl lower upper)
    (given utf8_falls (last p2 1 2 0x80 0xBF third c refl refl (omega arith) (omega arith) (omega arith))))

four : (c : ℕ) → 65536 ≤ c → c < 1114112 → Passed ((240 + c / 262144) ∷ (128 + c / 4096 % 64) ∷ (128 + c / 64 % 64) ∷ (128 + c % 64) ∷ []) c
four c low high =
    let first = 240 + c / 262144 in
    let second = 128 + c / 4096 % 64 in
    let third = 128 + c / 64 % 64 in
    let fourth = 128 + c % 64 in
    let p2 = 64 * (first - 0xF0) + (second - 0x80) in
    let p3 = 64 * p2 + (third - 0x80) in
    let lower : (if first == 0xF0 then 0x90 else 0x80) ≤ second = grind (arith, nat_tests) in
    let upper : second ≤ (if first == 0xF4 then 0x8F else 0xBF) = grind (arith, nat_tests) in
    held utf8_falls (lead_four first (omega arith) (omega arith))
    (held utf8_falls (more (first - 0xF0) 0 3 _ _ second refl refl lower upper)
    (held utf8_falls (more p2 1 3 0x80 0xBF third refl refl (omega arith) (omega arith))
    (given utf8_falls (last p3 2 3 0x80 0xBF fourth c refl refl (omega arith) (omega arith) (omega arith)))))

passed : (c : ℕ) → scalar c ≡ true → Passed (encode c) c
unfolding encode
passed c is =
    let range = scalar_cases c is in
    elim (cases_lt c 128) [
      | inl a ↦ rw (lt-ltb c 128 a) (given utf8_falls (rw (le-leb c 0x7F (omega (arith, a)))))
      | inr a ↦
          elim (cases_lt c 2048) [
            | inl b ↦ rw (le-ltb c 128 a, lt-ltb c 2048 b) (two c a b)
            | inr b ↦
                elim (cases_lt c 65536) [
                  | inl d ↦ rw (le-ltb c 128 a, le-ltb c 2048 b, lt-ltb c 65536 d) (three c b d (narrow c range))
                  | inr d ↦ rw (le-ltb c 128 a, le-ltb c 2048 b, le-ltb c 65536 d) (four c d (most c range))
                ]
          ]
    ]

utf8-passed : (cs : List ℕ) → scalars cs ≡ true → ArePassed utf8_falls utf8_start by_utf8 cs (encode_utf8_all cs)
utf8-passed [] are = refl
utf8-passed (c ∷ cs) are =
    let two = and_parts (scalar c) (scalars cs) are in (encode c, encode_utf8_all cs, refl, passed c two.0, length-encode c, utf8-passed cs two.1)

pub utf8_is_own : (bytes : List ℕ) (n : ℕ) → n ≤ length bytes → IsUtf8 (take n bytes) → IsOwnText utf8 utf8_start bytes n
utf8_is_own bytes n within text =
    let q = take n bytes in
    let cs = chars q in
    let valid = encodes-chars q text in
    let are = scalars-chars q text in
    record {
      within = within;
      text = text;
      stays = rw valid at (passed-stays utf8_falls utf8_start by_utf8 cs _ (utf8-passed cs are));
      whole = utf8-width cs ∙ rw valid (length-take-le n bytes within);
      items = λ read. rw valid at (passed-shown utf8_falls utf8_start by_utf8 cs _ (utf8-passed cs are) read);
    }

-- UTF-8 that was found in the first k bytes
pub utf8-near : (n k : ℕ) (bytes : List ℕ) → n ≤ length (take k bytes) → IsUtf8 (take n (take k bytes)) → (n ≤ length bytes) × IsUtf8 (take n bytes)
utf8-near n k bytes within valid =
    let front = take k bytes in
    let short = length-take k bytes in
    let same : take n bytes ≡ take n front = rw (take-append-drop k bytes) at (take-append-le n front (drop k bytes) within) in
    (omega (arith, within, short), rw same valid)

-- UTF-8 that was looked for in the first k bytes after UTF-8
pub utf8-behind : (at n k : ℕ) (bytes rest : List ℕ) → rest ≡ drop at bytes → at ≤ length bytes → IsUtf8 (take at bytes)
    → n ≡ utf8_valid_len (take k rest) → IsUtf8 (take n (take k rest)) → (at + n ≤ length bytes) × IsUtf8 (take (at + n) bytes)
utf8-behind at n k bytes rest is within valid run more =
    let near = utf8-near n k rest (rw run (utf8_valid_len_le (take k rest))) more in
    let left : length rest ≡ length bytes - at = rw is (length-drop at bytes) in
    (omega (arith, within, near.0, left), rw (take-add at n bytes, ← is) (IsUtf8-append (take at bytes) (take n rest) valid near.1))
