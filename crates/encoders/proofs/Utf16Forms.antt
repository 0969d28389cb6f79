-- The bytes of a text's units are those of its code points.
use Rattle.std.proofs.Common.{◌≡◌, refl, nat_le, ◌==◌, if◌then◌else◌, sym, ap, ◌∙◌, ℕ, ◌+◌, ◌*◌, ◌<◌, ◌≤◌, Bool, true, false, List, [], ◌∷◌, ◌++◌, Some, Ok}
use Rattle.std.proofs.Common.{Err, Result, length, length-append, take, drop, arith, append_assoc, append-nil, ◌⊎◌, inl, inr, eqb-true, le-leb, lt-ltb, le-ltb}
use Rattle.std.proofs.{Common.take-append-drop, Math.Utf8.encode, Math.Seq.take-append_seam, lemmas.Bool.cases_lt, lemmas.Bool.Decides.nat_tests}
use Rattle.std.proofs.lemmas.Str.{chars-append, encodes-chars, IsCharBoundary-past_char, length-encode, len_utf8_bounds}
use Rattle.std.specs.{Char.len_utf8, Str.chars, Str.encode_utf8_all, Str.IsCharBoundary, Str.IsUtf8}
use Rattle.decoder_core.specs.declared.utf16.ByteOrder.{ByteOrder, TheVariants.BigEndian, TheVariants.LittleEndian}
use Rattle.lane_ascii.specs.{Pairs.swapped, declared.room.NeedsRoom.NeedsRoom}
use Rattle.lane_utf.specs.{Conversions.over_front, Conversions.utf16_answer, Utf16.utf16_form, Utf16.utf16_forms, Widths.utf16_width, Widths.total_width}
use Rattle.encoders.specs.{Steps.encoded_from, Stateless.stateless, Utf16.units_bytes, Utf16.utf16_bytes}

-- ---- the bytes of a code point, and of all

form_bytes : (endian : ByteOrder) (c : ℕ) → (c < 0x10000) ⊎ (0x10000 ≤ c) → utf16_bytes endian c ≡ Some (units_bytes endian (utf16_form c))
form_bytes endian c (inl low) = rw (lt-ltb c 0x10000 low, append-nil)
form_bytes endian c (inr high) = rw (le-ltb c 0x10000 high, append-nil)

pub units-append : (endian : ByteOrder) (us vs : List ℕ) → units_bytes endian (us ++ vs) ≡ units_bytes endian us ++ units_bytes endian vs
units-append endian [] vs = refl
units-append endian (u ∷ us) vs = rw (units-append endian us vs, append_assoc)

pub utf16_all : (endian : ByteOrder) (html : Bool) (index : ℕ) (cs : List ℕ)
    → encoded_from (stateless (utf16_bytes endian)) html index tt cs ≡ Ok (record { bytes = units_bytes endian (utf16_forms cs); state = tt })
utf16_all endian html index [] = refl
utf16_all endian html index (c ∷ cs) =
    rw (form_bytes endian c (cases_lt c 0x10000), utf16_all endian html (index + 1) cs, units-append endian (utf16_form c) (utf16_forms cs))

-- ---- how many units there are

width-few : (c : ℕ) → utf16_width c ≤ len_utf8 c
width-few c = Prim.grind (arith, nat_tests)

units-few : (cs : List ℕ) → total_width utf16_width cs ≤ length (encode_utf8_all cs)
units-few [] = Prim.omega arith
units-few (c ∷ cs) = Prim.omega (arith, width-few c, units-few cs, length-append (encode c) (encode_utf8_all cs), length-encode c)

pub units-within : (text : List ℕ) → IsUtf8 text → total_width utf16_width (chars text) ≤ length text
units-within text valid = rw (encodes-chars text valid) at (units-few (chars text))

-- ---- units in a block

units-swapped : (us : List ℕ) → swapped (units_bytes LittleEndian us) ≡ units_bytes BigEndian us
units-swapped [] = refl
units-swapped (u ∷ us) = rw (units-swapped us)

units-length : (endian : ByteOrder) (us : List ℕ) → length (units_bytes endian us) ≡ 2 * length us
units-length endian [] = refl
units-length BigEndian (u ∷ us) = let rest = units-length BigEndian us in Prim.omega (arith, rest)
units-length LittleEndian (u ∷ us) = let rest = units-length LittleEndian us in Prim.omega (arith, rest)

pub front-swapped : (endian : ByteOrder) (us bytes new tail : List ℕ) → endian ≡ BigEndian → bytes ≡ units_bytes LittleEndian us → new ≡ swapped bytes
    → take (2 * length us) (new ++ tail) ≡ units_bytes endian us
front-swapped endian us bytes new tail is bytes_are new_is =
    let swaps : new ≡ units_bytes BigEndian us = rw (new_is, bytes_are) (units-swapped us) in
    let long : length new ≡ 2 * length us = rw swaps (units-length BigEndian us) in
    rw (← long, is) (take-append_seam new tail ∙ swaps)

-- ---- a part's units, as they were converted

abbrev needs : ℕ → Result ℕ NeedsRoom
needs n = Err (record { 0 = n })

pub not-refused : (part : List ℕ) (refused room : ℕ) → IsUtf8 part → length part ≤ room
    → needs refused ≡ utf16_answer (total_width utf16_width (chars part)) room → ⊥
not-refused part refused room valid few e =
    let within = le-leb (total_width utf16_width (chars part)) room (Prim.omega (arith, units-within part valid, few)) in
    let refuted = rw within at e in
    Prim.cc

answered-by : (k : Bool) (needed n : ℕ) → Ok n ≡ (if k then Ok needed else needs needed) → n ≡ needed
answered-by true needed n e = Prim.cc
answered-by false needed n e = Prim.cc

pub form-taken : ((cs : List ℕ) → length (utf16_forms cs) ≡ total_width utf16_width cs) → (part units old : List ℕ) (n room : ℕ)
    → Ok n ≡ utf16_answer (total_width utf16_width (chars part)) room
    → units ≡ over_front (utf16_forms (chars part)) old → take n units ≡ utf16_forms (chars part)
form-taken forms-width part units old n room answer written =
    let forms = utf16_forms (chars part) in
    let long : n ≡ length forms = answered-by (nat_le (total_width utf16_width (chars part)) room) _ n answer ∙ sym (forms-width (chars part)) in
    rw (long, written) (take-append_seam forms (drop (length forms) old))

-- ---- a text in parts

pub parts-go-on : ((cs ds : List ℕ) → utf16_forms (cs ++ ds) ≡ utf16_forms cs ++ utf16_forms ds)
    → (endian : ByteOrder) (rest part behind old new : List ℕ) (n : ℕ) → IsUtf8 part → part ≡ take n rest → behind ≡ drop n rest
    → new ≡ old ++ units_bytes endian (utf16_forms (chars part))
    → old ++ units_bytes endian (utf16_forms (chars rest)) ≡ new ++ units_bytes endian (utf16_forms (chars behind))
parts-go-on forms-append endian rest part behind old new n valid front back new_is =
    let whole : rest ≡ part ++ behind = rw (front, back, take-append-drop) in
    rw (whole, chars-append part behind valid, forms-append, units-append, new_is, append_assoc)

-- a part isn't empty: the first code point ends within it
pub part-some : (text : List ℕ) (end : ℕ) → IsUtf8 text → 0 < length text → ((i : ℕ) → end < i → i ≤ 512 → IsCharBoundary text i → ⊥) → 0 < end
part-some text end ([], (are, is)) some nearest = absurd (Prim.omega (arith, ap length is, some))
part-some text end (c ∷ cs, (are, is)) some nearest =
    let width = len_utf8_bounds c in
    let first : IsCharBoundary text (0 + len_utf8 c) = IsCharBoundary-past_char text (encode_utf8_all cs) 0 c (Prim.omega arith) (c ∷ cs, (are, is)) (sym is) in
    elim (cases_lt 0 end) [
      | inl more ↦ more
      | inr none ↦ absurd (nearest (0 + len_utf8 c) (Prim.omega (arith, width, none)) (Prim.omega (arith, width)) first)
    ]

pub parts-end : (endian : ByteOrder) (rest bytes whole : List ℕ) → (length rest == 0) ≡ true
    → whole ≡ bytes ++ units_bytes endian (utf16_forms (chars rest)) → bytes ≡ whole
unfolding chars
parts-end endian [] bytes whole none is = sym (is ∙ append-nil bytes)
parts-end endian (b ∷ rest) bytes whole none is = absurd (Prim.omega (arith, eqb-true (length (b ∷ rest)) 0 none))
