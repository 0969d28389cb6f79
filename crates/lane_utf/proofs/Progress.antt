-- Steps of a conversion to UTF-8.
use Rattle.std.proofs.Common.{◌≡◌, refl, sym, ap, ap₂, ◌∙◌, ℕ, zero, suc, ◌+◌, ◌*◌, ◌/◌, ◌%◌, ◌<◌, ◌≤◌, Bool, true, false, List, [], ◌∷◌, ◌++◌, length}
use Rattle.std.proofs.Common.{take, drop, get_or, None, Fits, w16, arith, length-append, length-drop, get_or-drop, take-take, drop-drop, mul-le-mul_left}
use Rattle.std.proofs.{Common.mul-suc, Common.mul-zero, Math.Seq.take-append-add, Math.Utf8.encode, Math.Utf8.encodes, lemmas.Str.encode_ascii}
use Rattle.std.proofs.lemmas.{Bool.Decides.nat_tests, List.Sums.prefix_len-le-length, Simd.length-chunk, Simd.chunk-fits, Str.length-encode, Str.encodes-append}
use Rattle.std.specs.{List.prefix_len, Simd.Lanes.Each1, Simd.Lanes.put_chunk}
use Rattle.lane_utf.proofs.{Fronts.single_front, Fronts.single_at, Putting.encode_two, Putting.encode_three, Putting.writing_goes_on, Putting.front_goes_on}
use Rattle.lane_utf.{proofs.UnitSums.paired-bytes, proofs.UnitSums.units-least, specs.Front.IsUtf16Front, specs.Progress.HasRoom, specs.Progress.IsUpTo}
use Rattle.lane_utf.specs.UnitForms.{IsUnitForm, four_bytes}
use Rattle.lane_utf.specs.{UnitRuns.is_one, UnitRuns.one_forms, UnitRuns.three_forms, UnitRuns.trail_byte, Utf16.is_lead}
use Rattle.lane_utf.specs.{Utf16.first_lone, Utf16.code_points, Weights.has_three, Widths.utf8_width, declared.to_utf8.Reached.Reached}
use Rattle.lemmas.proofs.Bools.{passes}

abbrev utf8_of : List ℕ → List ℕ
utf8_of units = encodes (code_points units)

-- ---- one code point

pub scalar_room : (tail rest : List ℕ) (c written room : ℕ) → tail ≡ encode c ++ rest → written + length tail ≤ room → written + utf8_width c ≤ room
scalar_room tail rest c written room e h = omega (arith, h, ap length e, length-append (encode c) rest, length-encode c)

pub scalar_up_to : {units out old : List ℕ} {from : Reached} (new : List ℕ) (c n end : ℕ) → from.read < length units → HasRoom units from (length out)
    → IsUtf16Front (drop from.read units) c n → end ≡ from.written + utf8_width c → new ≡ put_chunk from.written out (encode c)
    → IsUpTo units out old from → IsUpTo units new old (record { read = from.read + n; written = end })
scalar_up_to {units} {from = from} new c n end some room f at is u =
    let behind = drop-drop n from.read units in
    record {
      within = omega (arith, f.within, length-drop from.read units, some);
      paired = ap first_lone (sym behind) ∙ f.paired;
      writing = writing_goes_on (encode c) _ new end u.writing (omega (arith, room, u.writing.count))
          (ap encodes f.first ∙ ap (λ k. encode c ++ utf8_of k) behind) (omega (arith, at, length-encode c)) is;
    }

-- ---- one unit

drop_fits : (at : ℕ) (units : List ℕ) → ((i : ℕ) → Fits w16 (get_or units i 0)) → (i : ℕ) → Fits w16 (get_or (drop at units) i 0)
drop_fits at units fits i = rw (get_or-drop at units i 0) (fits (at + i))

unit_form : (u : ℕ) → u < 65536 → take (utf8_width u) (four_bytes u) ≡ encode u
unit_form u h = grind (arith, nat_tests, encode_ascii, encode_two, encode_three)

-- the code point of a unit that leads no pair
pub unit_front : (units : List ℕ) (at : ℕ) → at < length units → ((i : ℕ) → Fits w16 (get_or units i 0)) → first_lone (drop at units) ≡ None
    → is_lead (get_or units at 0) ≡ false → IsUtf16Front (drop at units) (get_or units at 0) 1
unit_front units at some fits paired plain = single_at units at _ some fits paired refl plain

-- after it
pub unit_passed : (units : List ℕ) (from : Reached) (u count n : ℕ) → IsUtf16Front (drop from.read units) u 1 → count ≡ utf8_width u → HasRoom units from n
    → (first_lone (drop (from.read + 1) units) ≡ None) × HasRoom units (record { read = from.read + 1; written = from.written + count }) n
unit_passed units from u count n f width room =
    let behind = drop-drop 1 from.read units in
    let long = ap length (ap encodes f.first) ∙ length-append (encode u) (utf8_of (drop 1 (drop from.read units))) in
    (ap first_lone (sym behind) ∙ f.paired, omega (arith, room, width, long, length-encode u, ap (λ k. length (utf8_of k)) behind))

-- Of four bytes that are written those of the form stay.
pub unit_up_to : {units out old : List ℕ} {from : Reached} (new form : List ℕ) (u count : ℕ) → u < 65536 → from.read < length units
    → 4 ≤ length (utf8_of (drop from.read units)) → HasRoom units from (length out) → IsUtf16Front (drop from.read units) u 1 → IsUnitForm u form count
    → new ≡ put_chunk from.written out form → IsUpTo units out old from → IsUpTo units new old (record { read = from.read + 1; written = from.written + count })
unit_up_to {units} {from = from} new form u count small some long room f is put to =
    let behind = drop-drop 1 from.read units in
    let few : count ≤ length form = grind (arith, nat_tests, is.width, ap length is.bytes) in
    record {
      within = omega (arith, some);
      paired = ap first_lone (sym behind) ∙ f.paired;
      writing = front_goes_on form _ new count _ to.writing (omega (arith, room, to.writing.count))
          (ap encodes f.first ∙ ap₂ (λ k r. k ++ utf8_of r) (sym (rw (is.bytes, is.width) (unit_form u small))) behind) few
          (omega (arith, ap length is.bytes, long)) refl put;
    }

-- as many bytes as there are units, if they are paired
pub tail_long : (units : List ℕ) (at n : ℕ) → ((i : ℕ) → Fits w16 (get_or units i 0)) → at + n ≤ length units → first_lone (drop at units) ≡ None
    → n ≤ length (utf8_of (drop at units))
tail_long units at n fits left paired =
    let us = drop at units in
    omega (arith, left, length-drop at units, units-least us, paired-bytes us (drop_fits at units fits) paired)

-- of eight units that begin at one, some are written over what there was before
pub record AreWritten (units before out : List ℕ) (from reached : Reached) (lane : ℕ) : Type 0 where
  pub count : lane ≤ 8
  pub read : reached.read ≡ from.read + lane
  pub paired : first_lone (drop reached.read units) ≡ None
  pub room : HasRoom units reached (length before)
  pub up_to : (old : List ℕ) → IsUpTo units before old from → IsUpTo units out old reached

-- ---- a run of units

-- units of a class that has no lead surrogates are code points by themselves
run_split : (p : ℕ → Bool) → ((u : ℕ) → p u ≡ true → is_lead u ≡ false) → (n m : ℕ) (us : List ℕ) → n ≤ prefix_len p (take m us)
    → ((k : ℕ) → Fits w16 (get_or us k 0)) → first_lone us ≡ None → (first_lone (drop n us) ≡ None) × (code_points us ≡ take n us ++ code_points (drop n us))
run_split p single zero m us h fits e = (e, refl)
run_split p single (suc n) zero us h fits e = absurd (omega (arith, h))
run_split p single (suc n) (suc m) [] h fits e = absurd (omega (arith, h))
run_split p single (suc n) (suc m) (u ∷ us) h fits e =
    let run = passes (p u) n (prefix_len p (take m us)) h in
    let front = single_front u us (fits 0).fits e (single u run.0) in
    let more = run_split p single n m us run.1 (λ k. fits (suc k)) front.paired in
    (more.0, front.first ∙ ap (λ k. u ∷ k) more.1)

-- a class of units whose forms have w bytes each
pub record IsClass (p : ℕ → Bool) (forms : List ℕ → List ℕ) (w : ℕ) : Type 0 where
  form : ℕ → List ℕ
  single : (u : ℕ) → p u ≡ true → is_lead u ≡ false
  none : forms [] ≡ []
  more : (u : ℕ) (us : List ℕ) → forms (u ∷ us) ≡ form u ++ forms us
  wide : (u : ℕ) → length (form u) ≡ w
  same : (u : ℕ) → u < 65536 → p u ≡ true → form u ≡ encode u

forms_long : {p : ℕ → Bool} {forms : List ℕ → List ℕ} {w : ℕ} → IsClass p forms w → (v : List ℕ) → length (forms v) ≡ w * length v
forms_long class [] = grind (arith, class.none)
forms_long {forms = forms} {w = w} class (u ∷ us) =
    omega (arith, ap length (class.more u us), length-append (class.form u) (forms us), class.wide u, forms_long class us, mul-suc w (length us))

forms_same : {p : ℕ → Bool} {forms : List ℕ → List ℕ} {w : ℕ} → IsClass p forms w → (n : ℕ) (v : List ℕ) → n ≤ prefix_len p v → Each1 (Fits w16) v
    → take (w * n) (forms v) ≡ encodes (take n v)
forms_same {w = w} class zero v h fits = rw (mul-zero w) refl
forms_same class (suc n) [] h fits = absurd (omega (arith, h))
forms_same {p} {forms} {w} class (suc n) (u ∷ us) h fits =
    let run = passes (p u) n (prefix_len p us) h in
    let long : w * suc n ≡ length (class.form u) + w * n = omega (arith, mul-suc w n, class.wide u) in
    let rest = forms_same class n us run.1 fits.1 in
    rw (long, class.more u us, take-append-add (class.form u) (forms us) (w * n), class.same u fits.0.fits run.0, rest) refl

-- as many bytes as units have room among what is to be written
pub run_room : (units : List ℕ) (from : Reached) (n room : ℕ) → ((i : ℕ) → Fits w16 (get_or units i 0)) → from.read + n ≤ length units
    → first_lone (drop from.read units) ≡ None → HasRoom units from room → from.written + n ≤ room
run_room units from n room fits left paired h =
    omega (arith, tail_long units from.read n fits left paired, h)

-- n units, of which the first k are of the class, and enough that all that is stored is among what is to be written
pub run_up_to : {p : ℕ → Bool} {forms : List ℕ → List ℕ} {w : ℕ} → IsClass p forms w → (n : ℕ)
    → {units out old : List ℕ} {from : Reached} (new : List ℕ) (k m : ℕ)
    → ((i : ℕ) → Fits w16 (get_or units i 0)) → from.read + n ≤ length units → from.read + w * n ≤ length units → HasRoom units from (length out)
    → k ≡ prefix_len p (take n (drop from.read units)) → m ≡ w * k → new ≡ put_chunk from.written out (forms (take n (drop from.read units)))
    → IsUpTo units out old from → IsUpTo units new old (record { read = from.read + k; written = from.written + m })
run_up_to {p} {forms} {w} class n {units} {out} {old} {from} new k m fits some left room count bytes is u =
    let us = drop from.read units in
    let v = take n us in
    let us_fits = drop_fits from.read units fits in
    let long : length v ≡ n = length-chunk from.read n units some in
    let few : k ≤ n = omega (arith, count, prefix_len-le-length p v, long) in
    let run : k ≤ prefix_len p v = omega (arith, count) in
    let split = run_split p class.single k n us run us_fits u.paired in
    let behind = drop-drop k from.read units in
    let wide : length (forms v) ≡ w * n = forms_long class v ∙ ap (λ j. w * j) long in
    let stored : take m (forms v) ≡ encodes (take k us) =
    ap (λ j. take j (forms v)) bytes ∙ forms_same class k v run (chunk-fits w16 from.read n units fits) ∙ ap encodes (take-take k n us few) in
    let tail : utf8_of us ≡ take m (forms v) ++ utf8_of (drop (from.read + k) units) =
    ap encodes split.1 ∙ encodes-append (take k us) (code_points (drop k us)) ∙ ap₂ (λ x y. x ++ utf8_of y) (sym stored) behind in
    record {
      within = omega (arith, some, few);
      paired = ap first_lone (sym behind) ∙ split.0;
      writing = front_goes_on (forms v) _ new m _ u.writing (omega (arith, room, u.writing.count)) tail (omega (arith, wide, bytes, mul-le-mul_left w few))
          (omega (arith, wide, left, length-drop from.read units, units-least us, paired-bytes us us_fits u.paired)) refl is;
    }

-- ---- the two classes

pub ones : IsClass is_one one_forms 1
ones = record {
  form = λ u. (u % 128) ∷ [];
  single = λ u e. grind (arith, nat_tests);
  none = refl;
  more = λ u us. refl;
  wide = λ u. refl;
  same = λ u h e. grind (arith, nat_tests, encode_ascii);
}

pub threes : IsClass has_three three_forms 3
threes = record {
  form = λ u. (0xE0 + u / 0x1000 % 0x10) ∷ trail_byte (u / 0x40) ∷ trail_byte u ∷ [];
  single = λ u e. grind (arith, nat_tests);
  none = refl;
  more = λ u us. refl;
  wide = λ u. refl;
  same = λ u h e. grind (arith, nat_tests, encode_three);
}
