-- What is asked of the desk as a whole, and answered: it names no document, and changes nothing.
use Rattle.std.specs.Prelude.{List, filter}
use Rattle.std.specs.FinMap.{entries}
use Rattle.enc_names.specs.{declared.encoding.Encoding.Encoding, Names.encodings}
use Rattle.index_loader.specs.Files.{Files, has_files}
use Rattle.piece_rope.specs.Edits.{document_limit}
use Rattle.desk.specs.{Desk.Office, Desk.max_documents, Log.log_length}
use Rattle.desk.specs.declared.ops.{documents.DocumentsReply.DocumentsReply, hello.HelloReply.HelloReply}
use Rattle.desk.specs.declared.overview.{Overview.Overview, OverviewReply.OverviewReply}
use Rattle.desk.specs.declared.overview.Overview.TheVariants as asks
use Rattle.desk.specs.declared.overview.OverviewReply.TheVariants as replies

-- the open documents in the order of their names, and the count of turns
abbrev pub documents_reply : Office → DocumentsReply
documents_reply o = record { documents = entries o.documents; turn = o.turn }

-- the encodings of which all files are loaded, in the order of the Standard's table
abbrev pub loaded : Files → List Encoding
loaded indexes = filter (has_files indexes) encodings

-- the limits of documents, and what they can be opened in
abbrev pub hello_reply : Files → HelloReply
hello_reply indexes = record { bytes = document_limit; documents = max_documents; edits = log_length; encodings = loaded indexes }

abbrev pub overview_of : Office → Overview → OverviewReply
overview_of o asks.Documents = replies.Documents (documents_reply o)
overview_of o asks.Hello = replies.Hello (hello_reply o.indexes)
