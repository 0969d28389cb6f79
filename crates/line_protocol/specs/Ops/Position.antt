-- `position`: its fields after the name of its document, in the order of their checks, and its reply.
use Rattle.desk.specs.{Commands.Asks, Commands.Position, declared.ops.position.PositionReply.PositionReply}
use Rattle.line_protocol.specs.Fields.{Ask, Field, Result, Ok, max_number, ◌>>=◌, need, number_at, unit_at}
use Rattle.line_protocol.specs.Values.{ℕ, Data, codes, object, no_members, member, whole}
use Rattle.line_protocol.specs.declared.request.field.Field.TheVariants as field

abbrev pub position_fields : Data → Result Ask Field
position_fields d = do
  offset ← need field.Offset (number_at d (codes "offset") max_number)
  unit ← need field.Unit (unit_at d)
  Ok (Asks (Position offset unit))

abbrev pub position_data : ℕ → PositionReply → Data
position_data id r =
    object (member (codes "character") (whole r.character) (member (codes "id") (whole id)
    (member (codes "line") (whole r.line) (member (codes "rev") (whole r.rev) no_members))))
