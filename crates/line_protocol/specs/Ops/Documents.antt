-- `documents`: it has no field of its own, and its reply lists what is open.
use Rattle.desk.specs.declared.{ops.documents.DocumentsReply.DocumentsReply, overview.Overview.Overview, overview.Overview.TheVariants.Documents}
use Rattle.line_protocol.specs.Fields.{Field, Result, Ok}
use Rattle.line_protocol.specs.Values.{ℕ, Data, codes, array, object, no_members, member, whole, items_of, document_data}

abbrev pub documents_fields : Data → Result Overview Field
documents_fields d = Ok Documents

abbrev pub documents_data : ℕ → DocumentsReply → Data
documents_data id r =
    object (member (codes "documents") (array (items_of document_data r.documents)) (member (codes "id") (whole id)
    (member (codes "turn") (whole r.turn) no_members)))
