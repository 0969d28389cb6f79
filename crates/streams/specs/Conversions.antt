-- The conversion of a stream (Encoding Standard, "decode" and "encode").
use Rattle.std.specs.Prelude.{◌≡◌, ◌<◌, ⊤, ℕ, Bool, true, false, List, [], ◌++◌, Option, Result, Ok, Err, length, take}
use Rattle.std.specs.Io.KnownBytes.{Appends}
use Rattle.devices.specs.Devices.{AppendsPart}
use Rattle.enc_names.specs.declared.{encoding.Encoding.Encoding}
use Rattle.index_loader.specs.Files.{Files}
use Rattle.iso2022jp.specs.declared.output.OutputState.{OutputState, TheVariants.Ascii}
use Rattle.decoder_core.specs.{declared.item.Ended.Ended, declared.fault.Unencodable.Unencodable, Queue.feed, Queue.run}
use Rattle.codec.specs.{Any.AnyDecoding, Any.any, Any.any_start, Texts.ended_text, declared.state.AnyState.AnyState}
use Rattle.encoders.specs.{Parts.HasBytes, Parts.encoded_part, Steps.Put, declared.fault.EncodeFault.EncodeFault, declared.mode.EncodeMode.EncodeMode}
use Rattle.encoders.specs.declared.{fault.EncodeFault.TheVariants.Unencodable as unencodable, fault.EncodeFault.TheVariants.OutOfMemory}
use Rattle.encoders.specs.declared.{mode.EncodeMode.TheVariants.Fatal as fatal, mode.EncodeMode.TheVariants.Html as html}
use Rattle.streams.specs.declared.conversion.ConvertMode.{ConvertMode, TheVariants.Fatal, TheVariants.Replacement, TheVariants.Html}
use Rattle.streams.specs.declared.conversion.PartFault.{PartFault}
use Rattle.streams.specs.declared.conversion.PartFault.TheVariants as fault
use Rattle.streams.specs.declared.converter.TextFault.{TextFault}
use Rattle.streams.specs.declared.converter.TextFault.TheVariants as text
use Rattle.streams.specs.Gathering.{kept, stops}

-- whether a decoding error refuses the stream
abbrev pub is_strict : ConvertMode → Bool
is_strict Fatal = true
is_strict Replacement = false
is_strict Html = false

-- the encoder's error mode
abbrev pub encode_mode : ConvertMode → EncodeMode
encode_mode Fatal = fatal
encode_mode Replacement = fatal
encode_mode Html = html

-- what a conversion goes by
pub record Job : Type 0 where
  pub decoder : AnyDecoding
  pub files : Files
  pub to : Encoding
  pub mode : ConvertMode

-- a conversion after some bytes: the state of its decoder, and that of its encoder
pub record Converting : Type 0 where
  pub job : Job
  pub state : AnyState
  pub out : OutputState

-- the items that bytes decide, whatever comes after them; and those of bytes that are all
abbrev pub decided : Job → List ℕ → List Ended
decided job read = (feed (any job.decoder) (any_start job.decoder) read).items

abbrev pub whole : Job → List ℕ → List Ended
whole job read = run (any job.decoder) (any_start job.decoder) read

-- the text of items, up to an error that stops it, encoded: with the end of the queue, or as a front of more
abbrev pub encoded_items : Job → List Ended → Bool → Result (Put OutputState) EncodeFault
encoded_items job items end = encoded_part job.files job.to (encode_mode job.mode) Ascii (ended_text (kept (is_strict job.mode) items)) end

-- no error stops the items
abbrev pub GoesOn : Job → List Ended → Type 0
GoesOn job items = stops (is_strict job.mode) items ≡ false

-- The bytes that were read are converted as far as they decide it: their text was encoded and written, after what was written before.
pub record Holds (job : Job) (began : Option (List ℕ)) (read : List ℕ) (c : Converting) (now : Option (List ℕ)) : Type 0 where
  pub same : c.job ≡ job
  pub state : c.state ≡ (feed (any job.decoder) (any_start job.decoder) read).state
  pub on : GoesOn job (decided job read)
  pub bytes : List ℕ
  pub put : encoded_items job (decided job read) false ≡ Ok (record { bytes = bytes; state = c.out })
  pub wrote : Appends began now bytes

-- The whole stream is converted: all of its text was encoded, with the end of the queue, and written.
pub record Ends (job : Job) (began : Option (List ℕ)) (read : List ℕ) (now : Option (List ℕ)) : Type 0 where
  pub on : GoesOn job (whole job read)
  pub put : Put OutputState
  pub is : encoded_items job (whole job read) true ≡ Ok put
  pub wrote : Appends began now put.bytes

-- ---- why a conversion ends early, over the items that were decided then

-- the target can be written
abbrev pub IsReady : Job → Type 0
IsReady job = HasBytes (encoded_part job.files job.to (encode_mode job.mode) Ascii [] false)

-- all before the first error was written
pub record StopsAtError (job : Job) (began : Option (List ℕ)) (items : List Ended) (now : Option (List ℕ)) : Type 0 where
  pub stopped : stops (is_strict job.mode) items ≡ true
  pub put : Put OutputState
  pub is : encoded_items job items false ≡ Ok put
  pub wrote : Appends began now put.bytes

-- all before the first code point without bytes was written
pub record StopsAtCodePoint (c : ℕ) (job : Job) (began : Option (List ℕ)) (items : List Ended) (at_end : Bool) (now : Option (List ℕ)) : Type 0 where
  pub end : Bool
  pub only : end ≡ true → at_end ≡ true
  pub index : ℕ
  pub is : encoded_items job items end ≡ Err (unencodable (record { index = index; code_point = c }))
  pub put : Put OutputState
  pub before : encoded_part job.files job.to (encode_mode job.mode) Ascii (take index (ended_text (kept (is_strict job.mode) items))) false ≡ Ok put
  pub wrote : Appends began now put.bytes

-- a front of what a front of the text is encoded to was written: not all of it if the write failed
pub record StopsWithin (job : Job) (began : Option (List ℕ)) (items : List Ended) (at_end : Bool) (now : Option (List ℕ)) : Type 0 where
  pub end : Bool
  pub only : end ≡ true → at_end ≡ true
  pub front : List ℕ
  pub rest : List ℕ
  pub parts : ended_text (kept (is_strict job.mode) items) ≡ front ++ rest
  pub put : Put OutputState
  pub is : encoded_part job.files job.to (encode_mode job.mode) Ascii front end ≡ Ok put
  pub bytes : List ℕ
  pub left : List ℕ
  pub cut : put.bytes ≡ bytes ++ left
  pub wrote : Appends began now bytes

-- by the cause; `at_end` says that the end of the stream was reached
abbrev pub Fails : PartFault → Job → Option (List ℕ) → List Ended → Bool → Option (List ℕ) → Type 0
Fails (fault.Malformed spot encoding) job began items at_end now = StopsAtError job began items now
Fails (fault.Unencodable spot c) job began items at_end now = StopsAtCodePoint c job began items at_end now
Fails fault.Write job began items at_end now = StopsWithin job began items at_end now
Fails fault.OutOfMemory job began items at_end now = StopsWithin job began items false now

-- ---- a text that is encoded and written

-- with another output state
abbrev pub with_out : OutputState → Converting → Converting
with_out out c = record { job = c.job; state = c.state; out = out }

-- By the answer: the bytes were written, and the output state is that after them; or a front of them and not all; or none, since the text isn't
-- encoded.
abbrev pub PutsText : Result (Put OutputState) EncodeFault → Converting → Converting → Option (List ℕ) → Option (List ℕ) → Result ⊤ TextFault → Type 0
PutsText wanted old new before after (Ok x) =
    (put : Put OutputState) × (wanted ≡ Ok put) × (new ≡ with_out put.state old) × Appends before after put.bytes
PutsText wanted old new before after (Err text.Write) = (put : Put OutputState) × (wanted ≡ Ok put) × (new ≡ old) × AppendsPart before after put.bytes
PutsText wanted old new before after (Err (text.Encode OutOfMemory)) = (new ≡ old) × (after ≡ before)
PutsText wanted old new before after (Err (text.Encode fault)) = (wanted ≡ Err fault) × (new ≡ old) × (after ≡ before)

-- Why not all of a text was written: a front of the bytes of a front of it was, and not all of these; all before a code point without bytes; or
-- nothing.
abbrev pub PutFails : (List ℕ → Bool → Result (Put OutputState) EncodeFault) → List ℕ → Bool → Option (List ℕ) → Option (List ℕ) → PartFault → Type 0
PutFails part cs end before after (fault.Malformed spot encoding) = ⊥
PutFails part cs end before after (fault.Unencodable spot c) =
    (index : ℕ) × (put : Put OutputState) × (part cs end ≡ Err (unencodable (record { index = index; code_point = c })))
    × (part (take index cs) false ≡ Ok put) × Appends before after put.bytes
PutFails part cs end before after fault.Write =
    (front : List ℕ) × (rest : List ℕ) × (last : Bool) × (put : Put OutputState) × (last ≡ true → end ≡ true) × (cs ≡ front ++ rest)
    × (part front last ≡ Ok put) × AppendsPart before after put.bytes
PutFails part cs end before after fault.OutOfMemory = after ≡ before

-- all of a text was written, or not
abbrev pub PutsAll : (List ℕ → Bool → Result (Put OutputState) EncodeFault) → List ℕ → Bool → Converting → Converting → Option (List ℕ) → Option (List ℕ)
    → Result ⊤ PartFault → Type 0
PutsAll part cs end old new before after (Ok x) =
    (put : Put OutputState) × (part cs end ≡ Ok put) × (new ≡ with_out put.state old) × Appends before after put.bytes
PutsAll part cs end old new before after (Err f) = PutFails part cs end before after f

-- the bytes of texts from the output state of a conversion on
abbrev pub part_of : Converting → List ℕ → Bool → Result (Put OutputState) EncodeFault
part_of c cs end = encoded_part c.job.files c.job.to (encode_mode c.job.mode) c.out cs end

-- ---- the parts of a stream

-- a part was converted: the conversion holds of what was read before and of it
abbrev pub ConvertsPart : List ℕ → Converting → Converting → Option (List ℕ) → Option (List ℕ) → Type 0
ConvertsPart bytes old new before after = (new.job ≡ old.job)
    × ((began : Option (List ℕ)) (read : List ℕ) → Holds old.job began read old before → Holds old.job began (read ++ bytes) new after)

-- not all of a part was converted, which has a byte
abbrev pub StopsPart : PartFault → List ℕ → Converting → Option (List ℕ) → Option (List ℕ) → Type 0
StopsPart fault bytes old before after = (0 < length bytes) × ((began : Option (List ℕ)) (read : List ℕ) → Holds old.job began read old before
    → Fails fault old.job began (decided old.job (read ++ bytes)) false after)
