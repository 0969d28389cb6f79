-- Encoding of code points in any encoding (Encoding Standard, "encode").
use Rattle.std.specs.Prelude.{◌≡◌, ⊤, ℕ, Bool, true, false, List, Option, Some, None, Result, Ok, Err, Vec, if◌then◌else◌}
use Rattle.std.specs.{Char.encode_utf8, declared.alloc.Global.Global}
use Rattle.enc_names.specs.declared.encoding.Encoding.{Encoding}
use Rattle.index_loader.specs.{Exceptions.ExceptionTable, declared.family.Family.Family}
use Rattle.index_loader.specs.declared.family.Family.TheVariants as of
use Rattle.index_loader.specs.{Files.Files, Files.has_files, Files.indexes_of, Index.Loaded}
use Rattle.decoder_core.specs.declared.fault.FromFault.{FromFault, TheVariants.Unencodable as unencodable_from, TheVariants.OutOfMemory as no_memory_from}
use Rattle.decoder_core.specs.declared.{fault.Unencodable.Unencodable, utf16.ByteOrder.TheVariants.BigEndian, utf16.ByteOrder.TheVariants.LittleEndian}
use Rattle.iso2022jp.specs.declared.output.OutputState.TheVariants.{Ascii}
use Rattle.encoders.specs.EucJp.{euc_jp_bytes}
use Rattle.encoders.specs.{Gb18030.gb18030_bytes, Gb18030.is_gbk, Pairs.writing_of, SingleByte.single_byte_bytes, SingleByte.x_user_defined_bytes}
use Rattle.encoders.specs.{Stateless.stateless, Steps.Put, Steps.encoded_from, Steps.encoded_iso, Utf16.utf16_bytes, declared.fault.EncodeFault.EncodeFault}
use Rattle.encoders.specs.declared.fault.EncodeFault.TheVariants.{NoIndex, NoEncoder, Unencodable as unencodable, OutOfMemory}
use Rattle.encoders.specs.declared.mode.EncodeMode.{EncodeMode, TheVariants.Fatal, TheVariants.Html}

-- error mode "html"
abbrev pub is_html : EncodeMode → Bool
is_html Fatal = false
is_html Html = true

-- the bytes over an index; over an index that isn't loaded nothing has bytes
abbrev pub over : Option Loaded → (Loaded → ℕ → Option (List ℕ)) → ℕ → Option (List ℕ)
over (Some index) bytes = bytes index
over None bytes = λ c. None

-- the bytes of a code point in a family whose encoder keeps no state; of gb18030's with its flag "is GBK" and its exceptions
abbrev pub bytes_over : Bool → ExceptionTable → Family (Option Loaded) → ℕ → Option (List ℕ)
bytes_over gbk exceptions of.Utf8 = λ c. Some (encode_utf8 c)
bytes_over gbk exceptions of.Utf16Be = utf16_bytes BigEndian
bytes_over gbk exceptions of.Utf16Le = utf16_bytes LittleEndian
bytes_over gbk exceptions of.XUserDefined = x_user_defined_bytes
bytes_over gbk exceptions (of.Pair encoding index) = over index (writing_of encoding).bytes
bytes_over gbk exceptions (of.EucJp jis0208 jis0212) = over jis0208 euc_jp_bytes
bytes_over gbk exceptions (of.Gb18030 index ranges) = over index (λ i. over ranges (gb18030_bytes gbk exceptions i))
bytes_over gbk exceptions (of.SingleByte index) = over index single_byte_bytes
bytes_over gbk exceptions family = λ c. None

-- without the state after the bytes
abbrev pub bytes_only : {S : Type 0} → Result (Put S) Unencodable → Result (List ℕ) EncodeFault
bytes_only (Ok put) = Ok put.bytes
bytes_only (Err e) = Err (unencodable e)

-- with the indexes of the encoding's family at hand, and to the end of the queue
abbrev pub encoded_over : Bool → Files → Family (Option Loaded) → Bool → List ℕ → Result (List ℕ) EncodeFault
encoded_over gbk files of.Replacement html cs = Err NoEncoder
encoded_over gbk files (of.Iso2022Jp jis0208 katakana) html cs = bytes_only (encoded_iso files Ascii cs html true)
encoded_over gbk files family html cs = bytes_only (encoded_from (stateless (bytes_over gbk files.exceptions family)) html 0 tt cs)

abbrev pub encoded_in : Files → Encoding → Bool → List ℕ → Result (List ℕ) EncodeFault
encoded_in files encoding html cs = encoded_over (is_gbk encoding) files (indexes_of files encoding) html cs

-- the bytes of code points, or the first cause that refuses it: NoIndex, NoEncoder, Unencodable
unfoldable pub encoded : Files → Encoding → EncodeMode → List ℕ → Result (List ℕ) EncodeFault
encoded files encoding mode cs = if has_files files encoding then encoded_in files encoding (is_html mode) cs else Err NoIndex

-- an answer: the bytes, or the first cause; a lack of memory can replace any
abbrev pub IsEncoded : Result (List ℕ) EncodeFault → Result (Vec ℕ Global) EncodeFault → Type 0
IsEncoded wanted (Ok bytes) = wanted ≡ Ok bytes.items
IsEncoded wanted (Err OutOfMemory) = ⊤
IsEncoded wanted (Err fault) = wanted ≡ Err fault

-- a fault of a text from a state on, as a fault of the whole
abbrev pub from_fault : FromFault → EncodeFault
from_fault (unencodable_from e) = unencodable e
from_fault no_memory_from = OutOfMemory
