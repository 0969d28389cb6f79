-- Runs of ASCII in UTF-16LE: each unit is its byte, and the text is these bytes.
use Rattle.std.proofs.Common.{◌≡◌, ℕ, suc, ◌+◌, ◌*◌, ◌≤◌, true, false, List, [], ◌∷◌, None, Ok, length, take, refl, sym, ap, ◌∙◌, arith}
use Rattle.std.proofs.lemmas.{List.length-take-le, List.take-append-drop, Str.encodes-IsAscii}
use Rattle.decoder_core.proofs.Prelude.{IsAscii, IsBulk, IsUtf8-from_ascii, LittleEndian, chars-IsAscii, encode_utf8_all, le-leb, lt-leb, lt-ltb, scalars}
use Rattle.decoder_core.proofs.Prelude.{scalars-chars, units_of, utf16, utf16_start}
use Rattle.decoder_core.{proofs.Utf16Runs.utf16_is_bulk, specs.declared.bulk.Stride.TheVariants.Utf16 as by_utf16}
use Rattle.lane_ascii.specs.Pairs.{spread}
use Rattle.lane_utf.specs.{Conversions.utf8_answer, Widths.total_width, Widths.utf8_width, Utf16.code_points, Utf16.first_lone_after, Utf16.utf16_forms}

spread-units : (bs : List ℕ) → units_of LittleEndian (spread bs) ≡ bs
spread-units [] = refl
spread-units (b ∷ bs) = let unit : 0 * 0x100 + b ≡ b = omega arith in rw (unit, spread-units bs)

ascii-points : (bs : List ℕ) → IsAscii bs → code_points bs ≡ bs
ascii-points [] a = refl
ascii-points (b ∷ []) a = refl
ascii-points (b ∷ c ∷ bs) a = rw (lt-leb 0xD800 b (omega (arith, a 0)), ascii-points (c ∷ bs) (λ i. a (suc i)))

ascii-pairs : (bs : List ℕ) → IsAscii bs → first_lone_after false bs ≡ None
ascii-pairs [] a = refl
ascii-pairs (b ∷ bs) a = rw (lt-leb 0xD800 b (omega (arith, a 0)), lt-leb 0xDC00 b (omega (arith, a 0)), ascii-pairs bs (λ i. a (suc i))) refl

ascii-width : (bs : List ℕ) → IsAscii bs → total_width utf8_width bs ≡ length bs
ascii-width [] a = refl
ascii-width (b ∷ bs) a = let rest = ascii-width bs (λ i. a (suc i)) in rw (lt-ltb b 128 (a 0)) (omega (arith, rest))

ascii-scalars : (bs : List ℕ) → IsAscii bs → scalars bs ≡ true
ascii-scalars bs a = ap scalars (sym (chars-IsAscii bs a)) ∙ scalars-chars bs (IsUtf8-from_ascii bs a)

-- what converts ASCII gives for it
ascii-answer : (bs : List ℕ) (room : ℕ) → IsAscii bs → length bs ≤ room → Ok (length bs) ≡ utf8_answer bs room
ascii-answer bs room a fits = rw (ascii-pairs bs a, ascii-points bs a, ascii-width bs a, le-leb (length bs) room fits)

-- the first n pairs are ASCII, whose bytes were written
pub ascii_is_bulk : ((bs : List ℕ) → IsAscii bs → utf16_forms bs ≡ bs) → (bytes block : List ℕ) (n : ℕ) → 2 * n ≤ length bytes
    → n ≤ length block → length block ≡ 1024 → take (2 * n) bytes ≡ spread (take n block) → IsAscii (take n block)
    → IsBulk (utf16 LittleEndian) utf16_start bytes (record { taken = 2 * n; written = n; stride = by_utf16 }) block
ascii_is_bulk ascii-forms bytes block n within room large pairs ascii =
    let text = take n block in
    let long : length text ≡ n = length-take-le n block room in
    let points = ascii-points text ascii in
    let units : text ≡ units_of LittleEndian (take (2 * n) bytes) = rw pairs (sym (spread-units text)) in
    let encoded : encode_utf8_all (code_points text) ≡ text = rw points (encodes-IsAscii text ascii) in
    utf16_is_bulk LittleEndian bytes text block block n n 1024 within refl units
    (rw long at (ascii-answer text 1024 ascii (omega (arith, long, room, large))))
    (rw points (ascii-scalars text ascii))
    (rw points (ascii-forms text ascii))
    (rw (encoded, long) (sym (take-append-drop n block)))
