-- `lines`: its fields after the name of its document, in the order of their checks, and its reply.
use Rattle.std.specs.Prelude.{[], ◌∷◌}
use Rattle.desk.specs.{Commands.Asks, Commands.Lines, declared.line.Line.Line, declared.ops.lines.LinesReply.LinesReply}
use Rattle.line_protocol.specs.Fields.{Ask, Field, Result, Ok, max_number, ◌>>=◌, need, max_entries, number_at}
use Rattle.line_protocol.specs.Values.{ℕ, Data, codes, array, object, no_members, member, whole, items_of, numbers_data}
use Rattle.line_protocol.specs.declared.request.field.Field.TheVariants as field

abbrev pub lines_fields : Data → Result Ask Field
lines_fields d = do
  from ← need field.From (number_at d (codes "from") max_number)
  max ← need field.Max (number_at d (codes "max") max_entries)
  Ok (Asks (Lines from max))

abbrev pub line_data : Line → Data
line_data l = numbers_data (l.start ∷ l.end ∷ [])

abbrev pub lines_data : ℕ → LinesReply → Data
lines_data id r =
    object (member (codes "count") (whole r.count) (member (codes "id") (whole id)
    (member (codes "lines") (array (items_of line_data r.lines)) (member (codes "rev") (whole r.rev) no_members))))
