-- `change`: its fields after the name of its document, in the order of their checks, and its reply.
use Rattle.desk.specs.{Commands.Change, declared.ops.change.ChangeReply.ChangeReply}
use Rattle.line_protocol.specs.Fields.{Ask, Field, Result, Ok, max_number, ◌>>=◌, need, number_at, text_at, unit_at, range_at}
use Rattle.line_protocol.specs.Values.{ℕ, Data, codes, string, object, no_members, member, name_of, whole}
use Rattle.line_protocol.specs.declared.request.field.Field.TheVariants as field

abbrev pub change_fields : Data → Result Ask Field
change_fields d = do
  rev ← need field.Rev (number_at d (codes "rev") max_number)
  unit ← need field.Unit (unit_at d)
  range ← need field.Range (range_at d)
  text ← need field.Text (text_at d (codes "text"))
  Ok (Change rev unit range text)

abbrev pub change_data : ℕ → ChangeReply → Data
change_data id r =
    object (member (codes "at") (whole r.at) (member (codes "bom") (whole r.bom) (member (codes "del") (whole r.del)
    (member (codes "encoding") (string (name_of r.encoding)) (member (codes "id") (whole id) (member (codes "ins") (whole r.ins)
    (member (codes "rev") (whole r.rev) no_members)))))))
