-- The lines of a head are read as their orders.
use Rattle.std.proofs.Common.{◌≡◌, ℕ, ◌<◌, ◌≤◌, true, false, nat_le, List, ◌∷◌, ◌++◌, length, Some, refl, ap, arith, decimal}
use Rattle.std.proofs.{Common.le-leb, Common.leb-true, Common.lt-ltb, Common.length-append, lemmas.Fmt.decimal_is_IsNumeral, lemmas.Fmt.length-decimal-le}
use Rattle.std.{proofs.lemmas.Slice.Eq.bytes_eq-Decides, specs.Str.is_utf8, specs.Result.result_ok}
use Rattle.base64.{specs.Engines.standard, specs.GeneralPurpose.encode_of, specs.GeneralPurpose.IsBytes, proofs.EngineFacts.decode_of-encode_of}
use Rattle.enc_names.specs.{Names.name_of, Settings.setting_of, declared.bom.Bom.Bom, declared.bom.Bom.TheVariants.Sniff, declared.bom.Bom.TheVariants.Keep}
use Rattle.enc_names.specs.declared.{encoding.Encoding.Encoding, encoding.Encoding.TheVariants.Utf8, setting.Setting.Setting}
use Rattle.desk.specs.{Documents.max_number, Effects.base64_bytes}
use Rattle.connections.specs.Lines.{has_end}
use Rattle.gateway.specs.{Trace.trace_limit, Head.Part, Head.Adoption, Head.adoption, Head.bom_in, Head.described, Head.name_in, Head.order_on}
unfoldable use Rattle.gateway.specs.Head.{encoding_in, revision_in}
use Rattle.records.specs.Compaction.{adopt_words, bom_word, most_of_part, part_words}
use Rattle.records.proofs.Lines.{IsPlain, after, base64_plain, before, bytes_are, decimal_plain, is_plain, length_base64, no_end, no_end_alone, plain_from}

-- ---- the words

-- an encoding's name is read as that encoding, is plain, and not long
abbrev Reads : Encoding → Type 0
Reads e = (encoding_in (name_of e) ≡ Some e) × (is_plain (name_of e) ≡ true) × (nat_le (length (name_of e)) 20 ≡ true)

reads : (e : Encoding) → Reads e
unfolding encoding_in
reads Utf8 = (refl, refl, refl)
reads e = (refl, refl, refl)

bom_plain : (bom : Bom) → IsPlain (bom_word bom)
bom_plain Sniff = plain_from (bom_word Sniff) refl
bom_plain Keep = plain_from (bom_word Keep) refl

bom_read : (bom : Bom) → bom_in (bom_word bom) ≡ Some bom
bom_read Sniff = refl
bom_read Keep = refl

bom_short : (bom : Bom) → length (bom_word bom) ≤ 5
bom_short Sniff = leb-true (length (bom_word Sniff)) 5 refl
bom_short Keep = leb-true (length (bom_word Keep)) 5 refl

revision_read : (n : ℕ) → n ≤ max_number → revision_in (decimal n) ≡ Some n
unfolding revision_in
revision_read n small =
    let value = (decimal_is_IsNumeral n (omega (arith, small))).1 in
    rw (value, (bytes_eq-Decides (decimal n) (decimal n)).1 refl, le-leb n max_number small) refl

described_read : (setting : Setting) (n : ℕ) → n ≤ max_number
    → described (name_of setting.given ++ 32 ∷ (bom_word setting.bom ++ 32 ∷ decimal n)) ≡ Some (setting_of setting.given setting.bom, n)
described_read setting n small =
    let name = plain_from (name_of setting.given) (reads setting.given).1 in
    let bom = bom_plain setting.bom in
    rw (after _ _ name, before _ _ name, (reads setting.given).0, after _ _ bom, before _ _ bom, bom_read setting.bom, revision_read n small)

-- a name of 1 to 64 bytes of UTF-8
pub record IsName (name : List ℕ) : Type 0 where
  pub some : 1 ≤ length name
  pub few : length name ≤ 64
  pub text : is_utf8 name ≡ true
  pub bytes : IsBytes name

name_read : (name : List ℕ) → IsName name → name_in (encode_of standard name) ≡ Some name
name_read name is =
    let decoded : base64_bytes (encode_of standard name) ≡ Some name = ap result_ok (decode_of-encode_of standard name refl is.bytes) in
    rw (decoded, lt-ltb 0 (length name) is.some, le-leb (length name) 64 is.few, is.text)

adoption_read : (name : List ℕ) (setting : Setting) (n : ℕ) → IsName name → n ≤ max_number
    → adoption (encode_of standard name ++ 32 ∷ (name_of setting.given ++ 32 ∷ (bom_word setting.bom ++ 32 ∷ decimal n)))
    ≡ Some (Adoption name (setting_of setting.given setting.bom) n)
adoption_read name setting n is small =
    let plain = base64_plain name in
    rw (after (encode_of standard name) _ plain, before (encode_of standard name) _ plain, name_read name is, described_read setting n small)

-- ---- the lines

fits : (line : List ℕ) → length line ≤ 200000 → nat_le (length line) trace_limit ≡ true
fits line small = le-leb (length line) trace_limit (omega (arith, small))

pub part_read : (part : List ℕ) → IsBytes part → 0 < length part → length part ≤ most_of_part → order_on (part_words part) ≡ Some (Part part)
part_read part bytes some few =
    rw (fits (part_words part) (omega (arith, length_base64 part, few)), bytes_are part bytes some)

adopt_long : (name : List ℕ) (setting : Setting) (n : ℕ) → length name ≤ 64 → n ≤ max_number → length (adopt_words name setting n) ≤ 200000
adopt_long name setting n few small =
    let given = leb-true (length (name_of setting.given)) 20 (reads setting.given).2 in
    let digits = length-decimal-le 16 n (omega arith) (omega arith) (omega (arith, small)) in
    let one = length-append (encode_of standard name) (32 ∷ (name_of setting.given ++ 32 ∷ (bom_word setting.bom ++ 32 ∷ decimal n))) in
    let two = length-append (name_of setting.given) (32 ∷ (bom_word setting.bom ++ 32 ∷ decimal n)) in
    omega (arith, length_base64 name, given, bom_short setting.bom, digits, one, two, length-append (bom_word setting.bom) (32 ∷ decimal n), few)

pub adopt_read : (name : List ℕ) (setting : Setting) (n : ℕ) → IsName name → n ≤ max_number
    → order_on (adopt_words name setting n) ≡ Some (Adoption name (setting_of setting.given setting.bom) n)
adopt_read name setting n is small = rw (fits (adopt_words name setting n) (adopt_long name setting n is.few small), adoption_read name setting n is small) refl

-- ---- they have no line feed

pub part_no_end : (part : List ℕ) → has_end (part_words part) ≡ false
part_no_end part = no_end_alone (encode_of standard part) (base64_plain part)

pub adopt_no_end : (name : List ℕ) (setting : Setting) (n : ℕ) → n ≤ max_number → has_end (adopt_words name setting n) ≡ false
adopt_no_end name setting n small =
    let bom = no_end (bom_word setting.bom) (32 ∷ decimal n) (bom_plain setting.bom) (no_end_alone _ (decimal_plain n (omega (arith, small)))) in
    no_end (encode_of standard name) _ (base64_plain name) (no_end (name_of setting.given) _ (plain_from _ (reads setting.given).1) bom)
