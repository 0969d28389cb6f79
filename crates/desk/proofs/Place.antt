-- The reply of the op `place`, and the offsets that values name.
use Rattle.std.proofs.Common.{◌≡◌, ◌≤◌, ℕ, Bool, nat_le, List, [], ◌∷◌, length, take, length-append, length-take, IfOk, Option, Some, refl, sym, ◌∙◌, arith}
use Rattle.lemmas.proofs.Recursion.{sum-ones}
use Rattle.desk.proofs.Prelude.{Ok, Err, filter, Result, length-take-le, nat_tests, Place, Files, Document, decoded, text_of, decoded_text, along}
use Rattle.desk.proofs.Prelude.{converted, PosFault, TextUnit, Utf8, Utf16, Utf32, Entry, document_of, Reply}
use Rattle.desk.specs.{Place.offset_named, Place.place_reply, declared.place_unit.PlaceUnit.PlaceUnit}
use Rattle.decoder_core.specs.{declared.placed.Placed.Placed, Text.code_points}
use Rattle.position_map.specs.{Places.scalar_of_byte, Places.place_of, Widths.width}

-- ---- offsets in code points

-- the first n code points are n units of UTF-32
pub width_front : (cs : List ℕ) (n : ℕ) → n ≤ length cs → width Utf32 (take n cs) ≡ n
width_front cs n h = sum-ones (width Utf32) refl (λ _ _. refl) (take n cs) ∙ length-take-le n cs h

along_scalars : (cs : List ℕ) (n : ℕ) → n ≤ length cs → along Utf32 cs n ≡ Some n
along_scalars [] n h = grind (arith, nat_tests)
along_scalars (c ∷ cs) n h = grind (arith, nat_tests, along_scalars cs)

-- an offset in another unit
pub converted_offset : (text : List ℕ) (to : TextUnit) (n : ℕ) → n ≤ length text → converted text Utf32 to n ≡ Ok (width to (take n text))
unfolding converted
converted_offset text to n h = grind (arith, nat_tests, sum-ones (width Utf32) refl (λ _ _. refl), along_scalars text)

-- ---- offsets named are within the text

filtered : (keeps : Placed → Bool) (ps : List Placed) → length (code_points (filter keeps ps)) ≤ length (code_points ps)
filtered keeps [] = omega arith
filtered keeps (p ∷ ps) = grind (arith, filtered keeps ps, length-append {A = ℕ})

within_items : (bytes : ℕ) (ps : List Placed) (at n : ℕ) → scalar_of_byte bytes ps at ≡ Ok n → n ≤ length (code_points ps)
unfolding scalar_of_byte
within_items bytes ps at n e = grind (arith, filtered (λ (p : Placed). nat_le p.to at) ps)

pub byte_within : (d : Document) (at : ℕ) (answer : Result ℕ PosFault) → answer ≡ scalar_of_byte (length d.bytes) (decoded d).items at
    → IfOk answer (λ n. n ≤ length (text_of d))
unfolding decoded_text
byte_within d at (Ok n) e = within_items (length d.bytes) (decoded d).items at n (sym e)
byte_within d at (Err fault) e = tt

pub converted_within : (text : List ℕ) (unit : TextUnit) (value : ℕ) (answer : Result ℕ PosFault)
    → answer ≡ converted text unit Utf32 value → IfOk answer (λ n. n ≤ length text)
unfolding converted
converted_within text unit value (Ok n) e = grind (arith, sum-ones (width Utf32) refl (λ _ _. refl), length-take {A = ℕ})
converted_within text unit value (Err fault) e = tt

-- ---- the reply

-- an offset within the text is one in each unit
pub no_fault : (text : List ℕ) (to : TextUnit) (n : ℕ) (fault : PosFault) → n ≤ length text → Err fault ≡ converted text Utf32 to n → ⊥
no_fault text to n fault within e = let never : Err fault ≡ Ok (width to (take n text)) = e ∙ converted_offset text to n within in cc

units_are : (text : List ℕ) (to : TextUnit) (n units : ℕ) → n ≤ length text → Ok units ≡ converted text Utf32 to n → width to (take n text) ≡ units
units_are text to n units within e = let is : Ok units ≡ Ok (width to (take n text)) = e ∙ converted_offset text to n within in cc

-- the reply that has these
abbrev found : ℕ → Option Place → ℕ → ℕ → ℕ → Reply
found rev place utf8 utf16 utf32 = Reply.Place (record { rev = rev; place = place; utf8 = utf8; utf16 = utf16; utf32 = utf32 })

pub place_answered : (indexes : Files) (h : Entry) (unit : PlaceUnit) (value n utf8 utf16 : ℕ) (place : Option Place)
    → Ok n ≡ offset_named (document_of indexes h) unit value → n ≤ length (text_of (document_of indexes h))
    → place ≡ place_of (decoded (document_of indexes h)).items n
    → Ok utf8 ≡ converted (text_of (document_of indexes h)) Utf32 Utf8 n → Ok utf16 ≡ converted (text_of (document_of indexes h)) Utf32 Utf16 n
    → place_reply indexes h unit value ≡ Ok (found h.revision place utf8 utf16 n)
place_answered indexes h unit value n utf8 utf16 place named within place_is utf8_is utf16_is =
    let d = document_of indexes h in
    let text = text_of d in
    rw (← named, width_front text n within, units_are text Utf16 n utf16 within utf16_is, units_are text Utf8 n utf8 within utf8_is, place_is) refl
