-- Byte order marks (Encoding Standard, "BOM sniff").
use Rattle.std.specs.Prelude.{ℕ, eqb, List, [], ◌∷◌, if◌then◌else◌, Option, Some, None, option_map}
use Rattle.std.specs.{List.starts_with, Option.unwrap_or}
use Rattle.enc_names.specs.declared.bom.Bom.{Bom, TheVariants.Sniff, TheVariants.Keep}
use Rattle.enc_names.specs.declared.encoding.Encoding.{Encoding, TheVariants.Utf8, TheVariants.Utf16Be, TheVariants.Utf16Le}
use Rattle.enc_names.specs.declared.setting.Setting.{Setting}
pub use Rattle.codec.specs.declared.mark.Mark.{Mark}

-- the mark that the bytes start with
abbrev pub mark_of : List ℕ → Option Mark
mark_of bytes =
    if starts_with eqb bytes (0xEF ∷ 0xBB ∷ 0xBF ∷ []) then Some (record { encoding = Utf8; len = 3 })
    else if starts_with eqb bytes (0xFE ∷ 0xFF ∷ []) then Some (record { encoding = Utf16Be; len = 2 })
    else if starts_with eqb bytes (0xFF ∷ 0xFE ∷ []) then Some (record { encoding = Utf16Le; len = 2 })
    else None

-- what a look for a mark finds: nothing where marks are kept
abbrev pub if_sniffed : {A : Type 0} → Bom → Option A → Option A
if_sniffed Sniff found = found
if_sniffed Keep found = None

-- the mark that counts under a setting
abbrev pub mark_under : Setting → List ℕ → Option Mark
mark_under setting bytes = if_sniffed setting.bom (mark_of bytes)

-- the effective encoding: that of the mark, or otherwise the declared one
abbrev pub in_force : Setting → List ℕ → Encoding
in_force setting bytes = unwrap_or (option_map (λ (m : Mark). m.encoding) (mark_under setting bytes)) setting.given

-- the number of bytes that aren't part of the text
abbrev pub mark_length : Setting → List ℕ → ℕ
mark_length setting bytes = unwrap_or (option_map (λ (m : Mark). m.len) (mark_under setting bytes)) 0
