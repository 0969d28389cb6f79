-- The reply to `open` and `splice`.
use Rattle.desk.specs.declared.reply.EditedReply.{EditedReply}
use Rattle.line_protocol.specs.Values.{ℕ, Data, codes, string, object, no_members, member, name_of, whole}

abbrev pub edited_data : ℕ → EditedReply → Data
edited_data id r =
    object (member (codes "bom") (whole r.bom) (member (codes "encoding") (string (name_of r.encoding))
    (member (codes "id") (whole id) (member (codes "rev") (whole r.rev) no_members))))
