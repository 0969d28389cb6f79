-- The decoder of an encoding is there exactly where the encoding can be decoded, and does what that encoding's own decoder does.
use Rattle.std.proofs.Common.{◌≡◌, ◌∙◌, refl, sym, ap, arith, rules, ℕ, eqb, Bool, ◌&&◌, true, false, List, [], ◌∷◌, length, Option, Some, None, is_some}
use Rattle.std.proofs.Common.{IfSome, option_map, unwrap_or}
use Rattle.codec.proofs.Prelude.{list_all, starts_with, Utf8, Utf16Be, Utf16Le, Setting, Family, Loaded, Ended, by_if, places, OwnDecoder, AnyState}
use Rattle.codec.proofs.Prelude.{AnyDecoding, Standing, decoder_in, in_force_of, own_in, run_behind, standing, standing_of, stands_behind, under, state_in}
use Rattle.codec.proofs.Prelude.{state_behind, coding, coding_run, decode, run_in, Mark, mark_of, mark_under, in_force, mark_length, prefix_under}
use Rattle.enc_names.specs.declared.encoding.Encoding.{Encoding}
use Rattle.index_loader.specs.declared.family.Family.TheVariants as of
use Rattle.index_loader.specs.declared.kind.{IndexKind.IndexKind, PairEncoding.PairEncoding}
use Rattle.index_loader.specs.{Families.family_map, Families.needed, Kinds.family_of, Kinds.home_of, Pairs.Pairs}
use Rattle.index_loader.specs.Files.{Files, pairs_of, index_of, indexes_of, has_files}
use Rattle.multibyte_decoders.specs.PairRules.{Source, over, source}
use Rattle.codec.proofs.Looking.{by_bom}

-- a decoder does what is wanted of it
abbrev pub Is : (List ℕ → List Ended) → (List ℕ → AnyState) → Standing → Type 0
Is runs states s = (s.run ≡ runs) × (s.state ≡ states)

-- the decoder of a family exists if it is wanted, and does then what is wanted of it
abbrev pub IsChosen : Bool → Family (Option Loaded) → Type 0
IsChosen there family =
    let s = standing family in (is_some s.decoder ≡ there) × IfSome s.decoder (λ d. Is (coding_run (coding family)) s.state (standing_of d))

abbrev found : IndexKind → Option Pairs → Option Loaded
found kind o = option_map (λ pairs. record { kind = home_of kind; pairs = pairs }) o

by_one : (over : Option Loaded → Family (Option Loaded)) (kind : IndexKind) → ((i : Loaded) → IsChosen true (over (Some i))) → IsChosen false (over None)
    → (o : Option Pairs) → IsChosen (is_some o && true) (over (found kind o))
by_one over kind some none (Some p) = some (record { kind = home_of kind; pairs = p })
by_one over kind some none None = none

by_two : (over : Option Loaded → Option Loaded → Family (Option Loaded)) (first second : IndexKind) → ((i j : Loaded) → IsChosen true (over (Some i) (Some j)))
    → ((o : Option Loaded) → IsChosen false (over None o)) → ((i : Loaded) → IsChosen false (over (Some i) None))
    → (o p : Option Pairs) → IsChosen (is_some o && (is_some p && true)) (over (found first o) (found second p))
by_two over first second some no_first no_second (Some p) (Some q) =
    some (record { kind = home_of first; pairs = p }) (record { kind = home_of second; pairs = q })
by_two over first second some no_first no_second (Some p) None = no_second (record { kind = home_of first; pairs = p })
by_two over first second some no_first no_second None q = no_first (found second q)

-- the decoder of an encoding over an index is the one that its source names
source-over : (encoding : PairEncoding) (index : Loaded) → source (over encoding index) ≡ record { encoding = encoding; index = index }
source-over encoding index = search rules

pair-chosen : (encoding : PairEncoding) (index : Loaded) → IsChosen true (of.Pair encoding (Some index))
pair-chosen encoding index =
    let same = source-over encoding index in
    let of_source = λ (s : Source). standing (of.Pair s.encoding (Some s.index)) in
    (refl, (ap (λ (s : Source). (of_source s).run) same, ap (λ (s : Source). (of_source s).state) same))

module _ (files : Files) where
  chosen_by : (family : Family IndexKind) → IsChosen (list_all (λ kind. is_some (pairs_of files kind)) (needed family)) (family_map (index_of files) family)
  chosen_by (of.SingleByte kind) = by_one of.SingleByte kind (λ i. (refl, (refl, refl))) (refl, tt) (pairs_of files kind)
  chosen_by (of.Pair encoding kind) = by_one (of.Pair encoding) kind (pair-chosen encoding) (refl, tt) (pairs_of files kind)
  chosen_by (of.Gb18030 first second) =
      by_two of.Gb18030 first second (λ i j. (refl, (refl, refl))) (λ o. (refl, tt)) (λ i. (refl, tt)) (pairs_of files first) (pairs_of files second)
  chosen_by (of.EucJp first second) =
      by_two of.EucJp first second (λ i j. (refl, (refl, refl))) (λ o. (refl, tt)) (λ i. (refl, tt)) (pairs_of files first) (pairs_of files second)
  chosen_by (of.Iso2022Jp first second) =
      by_two of.Iso2022Jp first second (λ i j. (refl, (refl, refl))) (λ o. (refl, tt)) (λ i. (refl, tt)) (pairs_of files first) (pairs_of files second)
  chosen_by family = (refl, (refl, refl))

  own-chosen : (encoding : Encoding) → IsChosen (has_files files encoding) (indexes_of files encoding)
  unfolding has_files
  own-chosen encoding = chosen_by (family_of encoding)

-- the one decoder reads by the setting, and the encoding's own decoder in it does what is wanted of it
pub record IsUnder (files : Files) (setting : Setting) (d : AnyDecoding) : Type 0 where
  pub own : Is (run_in files setting.given) (state_in files setting.given) (standing_of d.own)
  pub setting_is : d.setting ≡ setting

chosen_under : (files : Files) (setting : Setting) (there : Bool) (o : Option OwnDecoder)
    → (is_some o ≡ there) × IfSome o (λ d. Is (run_in files setting.given) (state_in files setting.given) (standing_of d))
    → (is_some (option_map (under setting) o) ≡ there) × IfSome (option_map (under setting) o) (IsUnder files setting)
chosen_under files setting there (Some own) h = (h.0, record { own = h.1; setting_is = refl })
chosen_under files setting there None h = (h.0, tt)

pub chosen : (files : Files) (setting : Setting)
    → (is_some (decoder_in files setting) ≡ has_files files setting.given) × IfSome (decoder_in files setting) (IsUnder files setting)
chosen files setting = chosen_under files setting (has_files files setting.given) (own_in files setting.given) (own-chosen files setting.given)

pub absent : (files : Files) (setting : Setting) → false ≡ has_files files setting.given → None ≡ decoder_in files setting
absent files setting there = let e : is_some (decoder_in files setting) ≡ false = (chosen files setting).0 ∙ sym there in grind arith

-- ---- behind a byte order mark

pub by_mark : (P : Option Mark → Type 0) (setting : Setting) (bytes : List ℕ) → P (Some (record { encoding = Utf8; len = 3 }))
    → P (Some (record { encoding = Utf16Be; len = 2 })) → P (Some (record { encoding = Utf16Le; len = 2 })) → P None → P (mark_under setting bytes)
by_mark P setting bytes utf8 utf16_be utf16_le none =
    by_bom P setting.bom (mark_of bytes) none
    (by_if P (starts_with eqb bytes (0xEF ∷ 0xBB ∷ 0xBF ∷ [])) utf8
    (by_if P (starts_with eqb bytes (0xFE ∷ 0xFF ∷ [])) utf16_be (by_if P (starts_with eqb bytes (0xFF ∷ 0xFE ∷ [])) utf16_le none)))

module _ (files : Files) (setting : Setting) (d : AnyDecoding) (does : IsUnder files setting d) where
  -- the effective decoder is that of the effective encoding
  forced : (bytes : List ℕ) → let e = in_force setting bytes in Is (run_in files e) (state_in files e) (in_force_of d (mark_under setting bytes))
  forced bytes =
      by_mark (λ mark. let e = unwrap_or (option_map (λ (m : Mark). m.encoding) mark) setting.given in
      Is (run_in files e) (state_in files e) (in_force_of d mark)) setting bytes
      (refl, refl) (refl, refl) (refl, refl) does.own

  pub decodes : (bytes : List ℕ) → places (length bytes) (mark_length setting bytes) (run_behind d bytes (mark_under d.setting bytes))
      ≡ (decode files setting bytes).items
  unfolding decode
  decodes bytes =
      ap (λ (s : Setting). places (length bytes) (mark_length setting bytes) (run_behind d bytes (mark_under s bytes))) does.setting_is
      ∙ rw ((forced bytes).0, places) refl

  pub behind : (bytes : List ℕ) → stands_behind d bytes (prefix_under d.setting bytes) (mark_under d.setting bytes) ≡ state_behind files setting bytes
  unfolding state_behind
  behind bytes =
      ap (λ (s : Setting). stands_behind d bytes (prefix_under s bytes) (mark_under s bytes)) does.setting_is ∙ rw (forced bytes).1 refl
