-- A stream that is read, converted and written (Encoding Standard, "decode" and "encode"), by how it ends.
use Rattle.std.specs.Prelude.{◌≡◌, ◌<◌, ⊤, ℕ, Bool, true, false, List, [], ◌∷◌, ◌++◌, Option, Some, None, Result, Ok, Err, length, take, is_some}
use Rattle.std.specs.Prelude.{if◌then◌else◌, ◌&&◌}
use Rattle.std.specs.Io.KnownBytes.{Appends}
use Rattle.devices.specs.Devices.{AppendsPart, Reads}
use Rattle.devices.specs.Reading.{AtEnd, ReadFailed, GivenUp, BrokenOff, ReadSo, ReadUp}
use Rattle.enc_names.specs.declared.encoding.Encoding.{Encoding}
use Rattle.index_loader.specs.Files.{Files, has_files}
use Rattle.iso2022jp.specs.declared.output.OutputState.{OutputState, TheVariants.Ascii}
use Rattle.decoder_core.specs.{declared.placed.Placed.Placed, Placed.places, Queue.feed, Queue.further, Queue.run}
use Rattle.decoder_core.specs.Text.{code_points, item_code_points}
use Rattle.codec.specs.{Any.AnyDecoding, Any.any, Any.any_start, Any.decoder_in, Decode.decode, Decode.fatal_of, Mark.mark_length}
use Rattle.codec.specs.{Texts.fed_text, declared.state.AnyState.AnyState}
use Rattle.encoders.specs.{Encode.encoded, Parts.encoded_part, Steps.Put, declared.fault.EncodeFault.EncodeFault}
use Rattle.encoders.specs.declared.fault.EncodeFault.TheVariants as encode
use Rattle.streams.specs.declared.conversion.{Conversion.Conversion, PartFault.PartFault}
use Rattle.streams.specs.declared.conversion.PartFault.TheVariants as fault
use Rattle.streams.specs.declared.conversion.ConvertMode.{ConvertMode, TheVariants.Fatal}
use Rattle.streams.specs.declared.refusal.Refusal.{Refusal, TheVariants.SourceIndex, TheVariants.TargetIndex, TheVariants.NoEncoder}
use Rattle.streams.specs.declared.refusal.Refusal.{TheVariants.OutOfMemory}
use Rattle.streams.specs.declared.stream.StreamFault.{StreamFault}
use Rattle.streams.specs.declared.stream.StreamFault.TheVariants as stream
use Rattle.streams.specs.Conversions.{Converting, Holds, IsReady, Job, encode_mode, is_strict}
use Rattle.streams.specs.Gathering.{is_error}

-- ---- the definitions' values

-- what bytes decode to
abbrev pub items_of : Files → Conversion → List ℕ → List Placed
items_of files job bytes = (decode files job.from bytes).items

-- the text of bytes, with U+FFFD for each error
abbrev pub text_of : Files → Conversion → List ℕ → List ℕ
text_of files job bytes = code_points (items_of files job bytes)

-- the items before the first error
abbrev pub before_error : List Placed → List Placed
before_error [] = []
before_error (p ∷ ps) = if is_error p.item then [] else p ∷ before_error ps

-- a text encoded as a front of more
abbrev pub front_encoded : Files → Conversion → List ℕ → Result (Put OutputState) EncodeFault
front_encoded files job text = encoded_part files job.to (encode_mode job.mode) Ascii text false

-- This holds of all bytes that may follow: of any, or of none if the end was reached.
abbrev pub Whatever : Bool → (List ℕ → Type 0) → Type 0
Whatever true P = P []
Whatever false P = (more : List ℕ) → P more

-- these bytes begin with a text, whatever follows them
abbrev pub BeginsWith : Files → Conversion → List ℕ → Bool → List ℕ → Type 0
BeginsWith files job read at_end text = Whatever at_end (λ more. (rest : List ℕ) × (text_of files job (read ++ more) ≡ text ++ rest))

-- ---- how a stream ends

-- All of the stream is converted: its text, encoded, was written. In mode `Fatal` it has no error.
pub record Converted (files : Files) (job : Conversion) (read : List ℕ) (before after : Option (List ℕ)) : Type 0 where
  pub fatal : job.mode ≡ Fatal → fatal_of (items_of files job read) ≡ None
  pub bytes : List ℕ
  pub is : encoded files job.to (encode_mode job.mode) (text_of files job read) ≡ Ok bytes
  pub wrote : Appends before after bytes

-- The reader gave out: all text that the bytes decide, whatever might have followed, was encoded and written.
pub record GaveOut (files : Files) (job : Conversion) (read : List ℕ) (before after : Option (List ℕ)) : Type 0 where
  pub decoder : AnyDecoding
  pub is_decoder : decoder_in files job.from ≡ Some decoder
  pub text : List ℕ
  pub all : text ≡ fed_text (any decoder) (any_start decoder) read
  pub begins : BeginsWith files job read false text
  pub put : Put OutputState
  pub is : front_encoded files job text ≡ Ok put
  pub wrote : Appends before after put.bytes

-- In mode `Fatal` an error refuses the stream, whatever follows: all text before it was encoded and written.
pub record HasError (files : Files) (job : Conversion) (read : List ℕ) (at_end : Bool) (before after : Option (List ℕ)) : Type 0 where
  pub mode : job.mode ≡ Fatal
  pub fatal : Whatever at_end (λ more. is_some (fatal_of (items_of files job (read ++ more))) ≡ true)
  pub text : List ℕ
  pub until : Whatever at_end (λ more. code_points (before_error (items_of files job (read ++ more))) ≡ text)
  pub put : Put OutputState
  pub is : front_encoded files job text ≡ Ok put
  pub wrote : Appends before after put.bytes

-- The target lacks this code point, whatever follows: all text before it was encoded and written.
pub record LacksCodePoint (c : ℕ) (files : Files) (job : Conversion) (read : List ℕ) (at_end : Bool) (before after : Option (List ℕ)) : Type 0 where
  pub index : ℕ
  pub lacks : Whatever at_end (λ more. encoded files job.to (encode_mode job.mode) (text_of files job (read ++ more))
      ≡ Err (encode.Unencodable (record { index = index; code_point = c })))
  pub put : Put OutputState
  pub is : Whatever at_end (λ more. front_encoded files job (take index (text_of files job (read ++ more))) ≡ Ok put)
  pub wrote : Appends before after put.bytes

-- The stream was broken off: a front of what a front of the text is encoded to was written.
pub record BrokeOff (files : Files) (job : Conversion) (read : List ℕ) (at_end : Bool) (before after : Option (List ℕ)) : Type 0 where
  pub text : List ℕ
  pub begins : BeginsWith files job read at_end text
  pub end : Bool
  pub only : end ≡ true → at_end ≡ true
  pub put : Put OutputState
  pub is : encoded_part files job.to (encode_mode job.mode) Ascii text end ≡ Ok put
  pub bytes : List ℕ
  pub left : List ℕ
  pub cut : put.bytes ≡ bytes ++ left
  pub wrote : Appends before after bytes

-- by the cause
abbrev pub StopsBy : PartFault → Files → Conversion → List ℕ → Bool → Option (List ℕ) → Option (List ℕ) → Type 0
StopsBy (fault.Malformed spot encoding) files job read at_end before after = HasError files job read at_end before after
StopsBy (fault.Unencodable spot c) files job read at_end before after = LacksCodePoint c files job read at_end before after
StopsBy fault.Write files job read at_end before after = BrokeOff files job read at_end before after
StopsBy fault.OutOfMemory files job read at_end before after = BrokeOff files job read at_end before after

-- memory runs out only after a byte was read, or at the end
abbrev pub RunsOut : PartFault → Bool → List ℕ → Type 0
RunsOut fault.OutOfMemory false read = 0 < length read
RunsOut why at_end read = ⊤

-- A part of the stream, or its end, couldn't be converted.
pub record StopsAt (why : PartFault) (files : Files) (job : Conversion) (first last : Reads) (before after : Option (List ℕ)) : Type 0 where
  pub at_end : Bool
  pub so : ReadSo (λ read. StopsBy why files job read at_end before after) first last
  pub some : RunsOut why at_end so.read
  pub up : ReadUp (if at_end then AtEnd else BrokenOff) first last

-- what refuses a target
abbrev pub IsTargetRefused : Refusal → Files → Encoding → ConvertMode → Type 0
IsTargetRefused SourceIndex files to mode = ⊥
IsTargetRefused TargetIndex files to mode = encoded files to (encode_mode mode) [] ≡ Err encode.NoIndex
IsTargetRefused NoEncoder files to mode = encoded files to (encode_mode mode) [] ≡ Err encode.NoEncoder
IsTargetRefused OutOfMemory files to mode = ⊤

-- what refuses a conversion before its first read: first of all that an index file of its source is missing
abbrev pub IsRefused : Refusal → Files → Conversion → Type 0
IsRefused SourceIndex files job = has_files files job.from.given ≡ false
IsRefused why files job = (has_files files job.from.given ≡ true) × IsTargetRefused why files job.to job.mode

-- a stream was converted, by the answer
abbrev pub Converts : Result ⊤ StreamFault → Files → Conversion → Reads → Reads → Option (List ℕ) → Option (List ℕ) → Type 0
Converts (Ok x) files job first last before after = ReadSo (λ read. Converted files job read before after) first last × ReadUp AtEnd first last
Converts (Err (stream.Refused why)) files job first last before after = IsRefused why files job × (last ≡ first) × (after ≡ before)
Converts (Err stream.Read) files job first last before after =
    ReadSo (λ read. GaveOut files job read before after) first last × ReadUp ReadFailed first last
Converts (Err stream.TooManyReads) files job first last before after =
    ReadSo (λ read. GaveOut files job read before after) first last × ReadUp GivenUp first last
Converts (Err (stream.Part why)) files job first last before after = StopsAt why files job first last before after

-- ---- a conversion that begins

-- A conversion with no byte read: its decoder is that of `decode`, and its encoder's first state is `Ascii`.
pub record Starts (files : Files) (job : Conversion) (c : Converting) : Type 0 where
  pub decoder : AnyDecoding
  pub is_decoder : decoder_in files job.from ≡ Some decoder
  pub decodes : (bytes : List ℕ) → places (length bytes) (mark_length job.from bytes) (run (any decoder) (any_start decoder) bytes) ≡ items_of files job bytes
  pub runs : (s : AnyState) (p q : List ℕ) → let first = feed (any decoder) s p in
      run (any decoder) s (p ++ q) ≡ further (length q) first.items ++ run (any decoder) first.state q
  pub none : (s : AnyState) → feed (any decoder) s [] ≡ record { state = s; items = [] }
  pub is : let job : Job = record { decoder = decoder; files = files; to = job.to; mode = job.mode } in
      c ≡ record { job = job; state = any_start decoder; out = Ascii }

-- And one that has begun: its target can be written.
pub record Begins (files : Files) (job : Conversion) (c : Converting) (before after : Option (List ℕ)) : Type 0 where
  pub first : Converting
  pub starts : Starts files job first
  pub ready : IsReady c.job
  pub holds : Holds first.job before [] c after

-- why a conversion didn't begin
abbrev pub BeginsNot : StreamFault → Files → Conversion → Option (List ℕ) → Option (List ℕ) → Type 0
BeginsNot (stream.Refused why) files job before after = IsRefused why files job × (after ≡ before)
BeginsNot (stream.Part fault.Write) files job before after =
    (put : Put OutputState) × (front_encoded files job [] ≡ Ok put) × AppendsPart before after put.bytes
BeginsNot fault files job before after = ⊥
