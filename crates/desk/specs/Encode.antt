-- The text of a document in another encoding.
use Rattle.std.specs.Prelude.{ℕ, ◌-◌, List, take, drop, if◌then◌else◌, Option, Some, None, Result, Ok, Err}
use Rattle.enc_names.specs.declared.encoding.Encoding.{Encoding}
use Rattle.index_loader.specs.Files.{Files, has_files}
use Rattle.encoders.specs.declared.fault.EncodeFault.{EncodeFault}
use Rattle.encoders.specs.declared.fault.EncodeFault.TheVariants as encoder
use Rattle.encoders.specs.{declared.mode.EncodeMode.EncodeMode, Encode.encoded}
use Rattle.piece_rope.specs.{Document.text_of, Edits.text_fault}
use Rattle.desk.specs.Documents.{Entry, document_of, unless_fault}
use Rattle.desk.specs.declared.fault.Fault.{Fault, TheVariants.UnknownLabel, TheVariants.NoIndex, TheVariants.NoEncoder, TheVariants.Unencodable}
use Rattle.desk.specs.declared.ops.Reply.{Reply, TheVariants.Bytes}

-- the reply with encoded bytes, or the encoder's cause; a definition has no cause of memory
abbrev pub bytes_reply : ℕ → Result (List ℕ) EncodeFault → Result Reply Fault
bytes_reply rev (Ok bytes) = Ok (Bytes (record { rev = rev; bytes = bytes }))
bytes_reply rev (Err encoder.NoIndex) = Err NoIndex
bytes_reply rev (Err (encoder.Unencodable e)) = Err (Unencodable e.code_point e.index)
bytes_reply rev (Err cause) = Err NoEncoder

-- the code points from..to, encoded from scratch (Encoding Standard, "encode")
abbrev pub encode_reply : Files → Entry → ℕ → ℕ → Encoding → EncodeMode → Result Reply Fault
encode_reply indexes h from to target mode =
    let d = document_of indexes h in
    if has_files indexes target
    then unless_fault (text_fault d from to) (bytes_reply h.revision (encoded indexes target mode (take (to - from) (drop from (text_of d)))))
    else Err NoIndex

-- the label may name an encoding
abbrev pub encode_reply_as : Files → Entry → ℕ → ℕ → Option Encoding → EncodeMode → Result Reply Fault
encode_reply_as indexes h from to None mode = Err UnknownLabel
encode_reply_as indexes h from to (Some target) mode = encode_reply indexes h from to target mode
