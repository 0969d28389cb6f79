-- The text of a document.
use Rattle.std.specs.Prelude.{ℕ, ◌-◌, take, drop, Option, Some, Result, Ok, Err}
use Rattle.std.specs.Str.{encode_utf8_all}
use Rattle.enc_names.specs.declared.place.Place.{Place}
use Rattle.index_loader.specs.Files.{Files}
use Rattle.piece_rope.specs.{Document.text_of, Document.first_error, Edits.text_fault}
use Rattle.desk.specs.{Documents.Entry, Documents.document_of, Documents.unless, declared.fault.Fault.Fault, declared.fault.Fault.TheVariants.Malformed}
use Rattle.desk.specs.declared.{ops.Reply.Reply, ops.Reply.TheVariants.Text, text_mode.TextMode.TextMode, text_mode.TextMode.TheVariants.Fatal}

-- In mode fatal the first error, wherever it is, replaces an answer (Encoding Standard, "decode", error mode "fatal").
abbrev pub in_mode : {A : Type 0} → TextMode → Option Place → Result A Fault → Result A Fault
in_mode Fatal (Some place) (Ok x) = Err (Malformed place)
in_mode mode first answer = answer

-- the code points from..to, in UTF-8
abbrev pub text_reply : Files → Entry → ℕ → ℕ → TextMode → Result Reply Fault
text_reply indexes h from to mode =
    let d = document_of indexes h in
    in_mode mode (first_error d)
    (unless (text_fault d from to) (Text (record { rev = h.revision; text = encode_utf8_all (take (to - from) (drop from (text_of d))) })))
