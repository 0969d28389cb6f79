-- `hello`: it has no field of its own, and its reply has what the program can do.
use Rattle.desk.specs.declared.{ops.hello.HelloReply.HelloReply, overview.Overview.Overview, overview.Overview.TheVariants.Hello}
use Rattle.line_protocol.specs.{Fields.Field, Fields.Result, Fields.Ok, Limits.line_limit}
use Rattle.line_protocol.specs.Values.{ℕ, Data, codes, array, string, object, no_members, member, whole, items_of, encoding_data}
use Rattle.line_protocol.specs.declared.ops.hello.TheConstants.{PROGRAM}

abbrev pub hello_fields : Data → Result Overview Field
hello_fields d = Ok Hello

-- the version of this protocol
abbrev pub protocol_version : ℕ
protocol_version = 1

abbrev pub hello_data : ℕ → HelloReply → Data
hello_data id r =
    object (member (codes "bytes") (whole r.bytes) (member (codes "documents") (whole r.documents) (member (codes "edits") (whole r.edits)
    (member (codes "encodings") (array (items_of encoding_data r.encodings)) (member (codes "id") (whole id) (member (codes "line") (whole line_limit)
    (member (codes "program") (string PROGRAM.now) (member (codes "protocol") (whole protocol_version) no_members))))))))
