-- The ISO-2022-JP decoder (Encoding Standard, "ISO-2022-JP decoder").
use Rattle.std.specs.Prelude.{ℕ, ◌+◌, ◌-◌, ◌*◌, Bool, true, false, ◌&&◌, ◌||◌, ◌==◌, List, [], ◌∷◌, Option, Some, None, if◌then◌else◌}
use Rattle.decoder_core.specs.declared.item.Item.{Item, TheVariants.One, TheVariants.Error}
use Rattle.decoder_core.specs.{Queue.Turn, Forms.gives, Forms.holds, Forms.finishes, Forms.is_ascii, Forms.within}
use Rattle.iso2022jp.specs.declared.output.OutputState.{OutputState, TheVariants.Ascii, TheVariants.Roman, TheVariants.Katakana, TheVariants.Jis0208}
use Rattle.iso2022jp.specs.declared.state.DecoderState.{DecoderState, TheVariants.Ready, TheVariants.Trail, TheVariants.EscapeStart, TheVariants.Escape}

-- the Standard's values: the decoder state, with the lead byte in the two states that read it, the output state and the output flag
pub record Iso2022Jp : Type 0 where
  pub state : DecoderState
  pub output : OutputState
  pub flag : Bool

abbrev pub values : DecoderState → OutputState → Bool → Iso2022Jp
values state output flag = record { state = state; output = output; flag = flag }

abbrev pub iso_2022_jp_start : Iso2022Jp
iso_2022_jp_start = values (Ready Ascii) Ascii false

abbrev pub output_of : Iso2022Jp → OutputState
output_of s = s.output

-- the decoder state is set
abbrev pub entering : Iso2022Jp → DecoderState → Iso2022Jp
entering s state = values state s.output s.flag

-- the output flag is set to false
abbrev pub unflagged : Iso2022Jp → Iso2022Jp
unflagged s = values s.state s.output false

-- the output flag is set to false and the decoder state to the output state
abbrev pub returning : Iso2022Jp → Iso2022Jp
returning s = values (Ready s.output) s.output false

-- an escape sets the decoder state and the output state, and the output flag to true
abbrev pub switched : OutputState → Iso2022Jp
switched output = values (Ready output) output true

-- a code point, or error for null
abbrev pub one_or_error : Option ℕ → Item
one_or_error (Some c) = One c
one_or_error None = Error

-- the states ASCII, Roman and katakana
abbrev pub ascii_item : ℕ → Item
ascii_item b = if b == 0x0E || b == 0x0F || b == 0x1B then Error else if is_ascii b then One b else Error

abbrev pub roman_item : ℕ → Item
roman_item b = if b == 0x5C then One 0xA5 else if b == 0x7E then One 0x203E else ascii_item b

abbrev pub katakana_item : ℕ → Item
katakana_item b = if within 0x21 0x5F b then One (0xFF61 - 0x21 + b) else Error

-- the bytes of a pair
abbrev pub is_pair_byte : ℕ → Bool
is_pair_byte b = within 0x21 0x7E b

-- the state trail byte
abbrev pub pair_item : (ℕ → Option ℕ) → ℕ → ℕ → Item
pair_item jis0208 lead b = if is_pair_byte b then one_or_error (jis0208 ((lead - 0x21) * 94 + (b - 0x21))) else Error

-- the state that an escape's second and third byte name
abbrev pub escape_to : ℕ → ℕ → Option OutputState
escape_to lead b =
    if lead == 0x28 && b == 0x42 then Some Ascii
    else if lead == 0x28 && b == 0x4A then Some Roman
    else if lead == 0x28 && b == 0x49 then Some Katakana
    else if lead == 0x24 && (b == 0x40 || b == 0x42) then Some Jis0208
    else None

-- a byte other than 1B in the states ASCII, Roman, katakana and lead byte, once the output flag is false
abbrev pub ready_byte : Iso2022Jp → OutputState → ℕ → Turn Iso2022Jp
ready_byte s Ascii b = gives s (ascii_item b) []
ready_byte s Roman b = gives s (roman_item b) []
ready_byte s Katakana b = gives s (katakana_item b) []
ready_byte s Jis0208 b = if is_pair_byte b then holds (entering s (Trail b)) else gives s Error []

-- the last byte of an escape, which is an error directly after another escape; the bytes of what isn't an escape are put
-- back
abbrev pub escaped : Iso2022Jp → Option OutputState → List ℕ → Turn Iso2022Jp
escaped s (Some output) bytes = if s.flag then gives (switched output) Error [] else holds (switched output)
escaped s None bytes = gives (returning s) Error bytes

-- a byte
abbrev pub state_byte : (ℕ → Option ℕ) → Iso2022Jp → DecoderState → ℕ → Turn Iso2022Jp
state_byte jis0208 s (Ready output) b =
    if b == 0x1B then holds (entering s EscapeStart) else ready_byte (unflagged s) output b
state_byte jis0208 s (Trail lead) b =
    if b == 0x1B then gives (entering s EscapeStart) Error []
    else gives (entering s (Ready Jis0208)) (pair_item jis0208 lead b) []
state_byte jis0208 s EscapeStart b =
    if b == 0x24 || b == 0x28 then holds (entering s (Escape b)) else gives (returning s) Error (b ∷ [])
state_byte jis0208 s (Escape lead) b = escaped s (escape_to lead b) (lead ∷ b ∷ [])

-- the end
abbrev pub state_end : Iso2022Jp → DecoderState → Turn Iso2022Jp
state_end s (Ready output) = finishes s
state_end s (Trail lead) = gives (entering s (Ready Jis0208)) Error []
state_end s EscapeStart = gives (returning s) Error []
state_end s (Escape lead) = gives (returning s) Error (lead ∷ [])

abbrev pub iso_2022_jp : (ℕ → Option ℕ) → Iso2022Jp → Option ℕ → Turn Iso2022Jp
iso_2022_jp jis0208 s None = state_end s s.state
iso_2022_jp jis0208 s (Some b) = state_byte jis0208 s s.state b
