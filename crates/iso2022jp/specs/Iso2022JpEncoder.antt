-- The ISO-2022-JP encoder (Encoding Standard, "ISO-2022-JP encoder").
use Rattle.std.specs.Prelude.{ℕ, ◌+◌, ◌-◌, ◌/◌, ◌%◌, ◌==◌, ◌||◌, ◌&&◌, Bool, true, false, not, List, [], ◌∷◌, ◌++◌, Option, Some, None, option_and_then, Result}
use Rattle.std.specs.Prelude.{Ok, Err, if◌then◌else◌}
use Rattle.decoder_core.specs.Forms.{is_ascii, within}
use Rattle.decoder_core.specs.declared.encoder.EncoderAnswer.TheVariants.{Puts, Restores, Fails}
use Rattle.decoder_core.specs.{declared.fault.Unencodable.Unencodable, EncoderSteps.Turn, EncoderSteps.Table, EncoderSteps.Put, EncoderSteps.encoded_from}
use Rattle.index_loader.specs.{Index.Loaded, Index.code_point_of, Files.Files, Files.index_of}
use Rattle.index_loader.specs.declared.kind.IndexKind.TheVariants.{Jis0208 as jis0208_kind, Katakana as katakana_kind}
use Rattle.iso2022jp.specs.declared.output.OutputState.{OutputState, TheVariants.Ascii, TheVariants.Roman, TheVariants.Katakana, TheVariants.Jis0208}
use Rattle.iso2022jp.specs.JisPointer.{jis_pointer}

-- the escape that switches to a state
abbrev pub escape_of : OutputState → List ℕ
escape_of Ascii = 0x1B ∷ 0x28 ∷ 0x42 ∷ []
escape_of Roman = 0x1B ∷ 0x28 ∷ 0x4A ∷ []
escape_of Katakana = 0x1B ∷ 0x28 ∷ 0x49 ∷ []
escape_of Jis0208 = 0x1B ∷ 0x24 ∷ 0x42 ∷ []

-- the handler's answers
abbrev pub puts : OutputState → List ℕ → Turn OutputState
puts s bytes = record { state = s; answer = Puts; bytes = bytes }

abbrev pub switches : OutputState → Turn OutputState
switches next = record { state = next; answer = Restores; bytes = escape_of next }

abbrev pub fails : OutputState → ℕ → Turn OutputState
fails s c = record { state = s; answer = Fails c; bytes = [] }

-- the code point that is looked up: the full-width minus sign, and full-width katakana, for those that aren't
abbrev pub folded : (ℕ → Option ℕ) → ℕ → Option ℕ
folded katakana c = if c == 0x2212 then Some 0xFF0D else if within 0xFF61 0xFF9F c then katakana (c - 0xFF61) else Some c

abbrev pub iso_pointer : Loaded → Loaded → ℕ → Option ℕ
iso_pointer jis0208 katakana c = option_and_then (jis_pointer jis0208) (folded (code_point_of katakana) c)

-- a code point that only the state jis0208 may have, by its pointer
abbrev pub jis0208_turn : OutputState → ℕ → Option ℕ → Turn OutputState
jis0208_turn Jis0208 c (Some p) = puts Jis0208 ((p / 94 + 0x21) ∷ (p % 94 + 0x21) ∷ [])
jis0208_turn Jis0208 c None = switches Ascii
jis0208_turn s c (Some p) = switches Jis0208
jis0208_turn s c None = fails s c

-- the steps that follow those of the states ASCII and Roman
abbrev pub other_turn : (ℕ → Option ℕ) → OutputState → ℕ → Turn OutputState
other_turn pointer s c =
    if is_ascii c then switches Ascii
    else if c == 0xA5 || c == 0x203E then switches Roman
    else jis0208_turn s c (pointer c)

-- SO, SI and ESC
abbrev pub is_control : ℕ → Bool
is_control c = c == 0x0E || (c == 0x0F || c == 0x1B)

-- katakana isn't one of the encoder's three states: it is a decoder's state
abbrev pub iso_2022_jp_encoder : (ℕ → Option ℕ) → Table OutputState
iso_2022_jp_encoder pointer Ascii c =
    if is_control c then fails Ascii 0xFFFD else if is_ascii c then puts Ascii (c ∷ []) else other_turn pointer Ascii c
iso_2022_jp_encoder pointer Roman c =
    if is_control c then fails Roman 0xFFFD
    else if is_ascii c && not (c == 0x5C || c == 0x7E) then puts Roman (c ∷ [])
    else if c == 0xA5 then puts Roman (0x5C ∷ [])
    else if c == 0x203E then puts Roman (0x7E ∷ [])
    else other_turn pointer Roman c
iso_2022_jp_encoder pointer s c = other_turn pointer s c

-- the end of the queue: the escape to ASCII, if the state isn't ASCII
abbrev pub returns : OutputState → List ℕ
returns Ascii = []
returns s = escape_of Ascii

-- what was encoded, with the end of the queue if it is asked for
abbrev pub end_bytes : Bool → OutputState → List ℕ
end_bytes true s = returns s
end_bytes false s = []

abbrev pub end_state : Bool → OutputState → OutputState
end_state true s = Ascii
end_state false s = s

abbrev pub ended : Bool → Result (Put OutputState) Unencodable → Result (Put OutputState) Unencodable
ended end (Ok put) = Ok (record { bytes = put.bytes ++ end_bytes end put.state; state = end_state end put.state })
ended end (Err e) = Err e

-- the pointers over the loaded files; without them nothing has one
abbrev pub pointer_over : Option Loaded → Option Loaded → ℕ → Option ℕ
pointer_over (Some jis0208) (Some katakana) = iso_pointer jis0208 katakana
pointer_over jis0208 katakana = λ c. None

abbrev pub pointer_in : Files → ℕ → Option ℕ
pointer_in files = pointer_over (index_of files jis0208_kind) (index_of files katakana_kind)

-- code points encoded from a state on, in mode "html" or "fatal", with the end of the queue or without
abbrev pub encoded_iso : Files → OutputState → List ℕ → Bool → Bool → Result (Put OutputState) Unencodable
encoded_iso files s cs html end = ended end (encoded_from (iso_2022_jp_encoder (pointer_in files)) html 0 s cs)
