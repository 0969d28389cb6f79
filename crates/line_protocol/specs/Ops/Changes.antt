-- `changes`: its fields after the name of its document, in the order of their checks, and its reply.
use Rattle.desk.specs.{Commands.Changes, declared.ops.changes.ChangesReply.ChangesReply}
use Rattle.line_protocol.specs.Fields.{Ask, Field, Result, Ok, max_number, ◌>>=◌, need, number_at, unit_at, changes_at}
use Rattle.line_protocol.specs.Values.{ℕ, Data, codes, string, object, no_members, member, name_of, whole}
use Rattle.line_protocol.specs.declared.request.field.Field.TheVariants as field

abbrev pub changes_fields : Data → Result Ask Field
changes_fields d = do
  rev ← need field.Rev (number_at d (codes "rev") max_number)
  unit ← need field.Unit (unit_at d)
  changes ← need field.Changes (changes_at d)
  Ok (Changes rev unit changes)

abbrev pub changes_data : ℕ → ChangesReply → Data
changes_data id r =
    object (member (codes "applied") (whole r.applied) (member (codes "bom") (whole r.bom) (member (codes "encoding") (string (name_of r.encoding))
    (member (codes "id") (whole id) (member (codes "rev") (whole r.rev) no_members)))))
