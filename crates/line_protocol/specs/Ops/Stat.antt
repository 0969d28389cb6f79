-- `stat`: its fields after the name of its document, in the order of their checks, and its reply.
use Rattle.desk.specs.{Commands.Asks, Commands.Stat, declared.ops.stat.StatReply.StatReply}
use Rattle.line_protocol.specs.Fields.{Ask, Field, Result, Ok}
use Rattle.line_protocol.specs.Values.{ℕ, Data, codes, string, object, no_members, member, name_of, whole}

abbrev pub stat_fields : Data → Result Ask Field
stat_fields d = Ok (Asks Stat)

abbrev pub stat_data : ℕ → StatReply → Data
stat_data id r =
    object (member (codes "bom") (whole r.bom) (member (codes "bytes") (whole r.bytes) (member (codes "encoding") (string (name_of r.encoding))
    (member (codes "errors") (whole r.errors) (member (codes "given") (string (name_of r.given)) (member (codes "id") (whole id)
    (member (codes "lines") (whole r.lines) (member (codes "rev") (whole r.rev) (member (codes "utf16") (whole r.utf16)
    (member (codes "utf32") (whole r.utf32) (member (codes "utf8") (whole r.utf8) no_members)))))))))))
