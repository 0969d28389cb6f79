-- `offset`: its fields after the name of its document, in the order of their checks, and its reply.
use Rattle.desk.specs.{Commands.Asks, Commands.Offset, declared.ops.offset.OffsetReply.OffsetReply}
use Rattle.line_protocol.specs.Fields.{Ask, Field, Result, Ok, max_number, ◌>>=◌, need, number_at, unit_at}
use Rattle.line_protocol.specs.Values.{ℕ, Data, codes, object, no_members, member, whole}
use Rattle.line_protocol.specs.declared.request.field.Field.TheVariants as field

abbrev pub offset_fields : Data → Result Ask Field
offset_fields d = do
  line ← need field.Line (number_at d (codes "line") max_number)
  character ← need field.Character (number_at d (codes "character") max_number)
  unit ← need field.Unit (unit_at d)
  Ok (Asks (Offset line character unit))

abbrev pub offset_data : ℕ → OffsetReply → Data
offset_data id r = object (member (codes "id") (whole id) (member (codes "offset") (whole r.offset) (member (codes "rev") (whole r.rev) no_members)))
