-- The look for a byte order mark, byte by byte: bytes that may begin one are held, and put back if they don't.
use Rattle.std.specs.Prelude.{ℕ, ◌==◌, List, [], ◌∷◌, Option, Some, None, if◌then◌else◌}
use Rattle.std.specs.{List.find, Str.bytes_eq}
use Rattle.enc_names.specs.declared.setting.Setting.{Setting}
use Rattle.decoder_core.specs.{declared.handler.Answer.TheVariants.Nothing as no_item, Forms.holds, Queue.Turn, Utf8.utf8_start, Utf16.utf16_start}
use Rattle.codec.specs.declared.prefix.Prefix.{Prefix, TheVariants.Nothing, TheVariants.Ef, TheVariants.EfBb, TheVariants.Fe, TheVariants.Ff}
use Rattle.codec.specs.declared.state.AnyState.{AnyState}
use Rattle.codec.specs.declared.state.AnyState.TheVariants.{Sniffing as in_sniffing, Utf8 as in_utf8, Utf16Be as in_utf16_be, Utf16Le as in_utf16_le}
use Rattle.codec.specs.Mark.{if_sniffed}

-- the bytes of a proper prefix of a mark
abbrev pub prefix_bytes : Prefix → List ℕ
prefix_bytes Nothing = []
prefix_bytes Ef = 0xEF ∷ []
prefix_bytes EfBb = 0xEF ∷ 0xBB ∷ []
prefix_bytes Fe = 0xFE ∷ []
prefix_bytes Ff = 0xFF ∷ []

-- the proper prefix of a mark that the bytes are, all of them
abbrev pub prefix_of : List ℕ → Option Prefix
prefix_of bytes = find (λ p. bytes_eq (prefix_bytes p) bytes) (Nothing ∷ Ef ∷ EfBb ∷ Fe ∷ Ff ∷ [])

-- the same where a mark is looked for under the setting
abbrev pub prefix_under : Setting → List ℕ → Option Prefix
prefix_under setting bytes = if_sniffed setting.bom (prefix_of bytes)

-- no mark: the bytes are read again, from the first state of the declared encoding
abbrev pub restarts : AnyState → List ℕ → Turn AnyState
restarts start bytes = record { state = start; answer = no_item; back = bytes }

-- a byte after a proper prefix
abbrev pub sniffing_byte : AnyState → Prefix → ℕ → Turn AnyState
sniffing_byte start Nothing b =
    if b == 0xEF then holds (in_sniffing Ef)
    else if b == 0xFE then holds (in_sniffing Fe)
    else if b == 0xFF then holds (in_sniffing Ff)
    else restarts start (b ∷ [])
sniffing_byte start Ef b = if b == 0xBB then holds (in_sniffing EfBb) else restarts start (0xEF ∷ b ∷ [])
sniffing_byte start EfBb b = if b == 0xBF then holds (in_utf8 utf8_start) else restarts start (0xEF ∷ 0xBB ∷ b ∷ [])
sniffing_byte start Fe b = if b == 0xFF then holds (in_utf16_be utf16_start) else restarts start (0xFE ∷ b ∷ [])
sniffing_byte start Ff b = if b == 0xFE then holds (in_utf16_le utf16_start) else restarts start (0xFF ∷ b ∷ [])

abbrev pub sniffing : AnyState → Prefix → Option ℕ → Turn AnyState
sniffing start p None = restarts start (prefix_bytes p)
sniffing start p (Some b) = sniffing_byte start p b
