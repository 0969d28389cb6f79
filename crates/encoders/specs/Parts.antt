-- A text that is encoded part by part (Encoding Standard, "Encoders and decoders": an encoder takes one code point after another, and then the
-- end of the queue).
use Rattle.std.specs.Prelude.{◌≡◌, ⊤, ℕ, ◌+◌, Bool, List, Result, Ok, Err, Vec, if◌then◌else◌}
use Rattle.std.specs.declared.alloc.Global.{Global}
use Rattle.enc_names.specs.declared.encoding.Encoding.{Encoding, TheVariants.Iso2022Jp}
use Rattle.index_loader.specs.Files.{Files, has_files}
use Rattle.iso2022jp.specs.declared.output.OutputState.{OutputState}
use Rattle.encoders.specs.{Encode.encoded, Encode.is_html, Steps.Put, Steps.Unencodable, Steps.behind, Steps.encoded_iso}
use Rattle.encoders.specs.declared.{fault.EncodeFault.EncodeFault, mode.EncodeMode.EncodeMode}
use Rattle.encoders.specs.declared.fault.EncodeFault.TheVariants.{NoIndex, NoEncoder, Unencodable as unencodable, OutOfMemory}

-- bytes of an encoder that keeps no state: the output state is unchanged
abbrev pub in_state : OutputState → Result (List ℕ) EncodeFault → Result (Put OutputState) EncodeFault
in_state s (Ok bytes) = Ok (record { bytes = bytes; state = s })
in_state s (Err fault) = Err fault

abbrev pub iso_part : Result (Put OutputState) Unencodable → Result (Put OutputState) EncodeFault
iso_part (Ok put) = Ok put
iso_part (Err e) = Err (unencodable e)

-- a part to ISO-2022-JP, where its index files are loaded
abbrev pub iso_part_in : Files → Bool → OutputState → List ℕ → Bool → Result (Put OutputState) EncodeFault
iso_part_in files html s cs end = if has_files files Iso2022Jp then iso_part (encoded_iso files s cs html end) else Err NoIndex

-- The bytes of a part of a text from an output state on, and the output state after them; `end` says whether the end of the queue follows.
unfoldable pub encoded_part : Files → Encoding → EncodeMode → OutputState → List ℕ → Bool → Result (Put OutputState) EncodeFault
encoded_part files Iso2022Jp mode s cs end = iso_part_in files (is_html mode) s cs end
encoded_part files encoding mode s cs end = in_state s (encoded files encoding mode cs)

-- a fault after n code points, as a fault of the whole text
abbrev pub fault_after : ℕ → EncodeFault → EncodeFault
fault_after n (unencodable e) = unencodable (record { index = n + e.index; code_point = e.code_point })
fault_after n fault = fault

abbrev pub part_after : ℕ → Result (Put OutputState) EncodeFault → Result (Put OutputState) EncodeFault
part_after n (Ok put) = Ok put
part_after n (Err fault) = Err (fault_after n fault)

-- a part of n code points, and then the rest from the output state after it
abbrev pub in_parts : ℕ → Result (Put OutputState) EncodeFault → (OutputState → Result (Put OutputState) EncodeFault) → Result (Put OutputState) EncodeFault
in_parts n (Ok put) rest = behind put.bytes (part_after n (rest put.state))
in_parts n (Err fault) rest = Err fault

-- the bytes alone
abbrev pub part_bytes : Result (Put OutputState) EncodeFault → Result (List ℕ) EncodeFault
part_bytes (Ok put) = Ok put.bytes
part_bytes (Err fault) = Err fault

-- a fault of the target and not of a text
abbrev pub IsOfTarget : EncodeFault → Type 0
IsOfTarget NoIndex = ⊤
IsOfTarget NoEncoder = ⊤
IsOfTarget fault = ⊥

-- there are bytes
abbrev pub HasBytes : Result (Put OutputState) EncodeFault → Type 0
HasBytes r = (put : Put OutputState) × (r ≡ Ok put)

-- an answer: the bytes and the output state after them, the first cause, or out of memory in place of any
abbrev pub IsEncodedPart : Result (Put OutputState) EncodeFault → Result (Vec ℕ Global × OutputState) EncodeFault → Type 0
IsEncodedPart wanted (Ok (bytes, state)) = wanted ≡ Ok (record { bytes = bytes.items; state = state })
IsEncodedPart wanted (Err OutOfMemory) = ⊤
IsEncodedPart wanted (Err fault) = wanted ≡ Err fault
