-- `encode`: its fields after the name of its document, in the order of their checks.
use Rattle.desk.specs.Commands.{Asks, Encode}
use Rattle.line_protocol.specs.Fields.{Ask, Field, Result, Ok, max_number, ◌>>=◌, need, number_at, text_at, encode_mode_at}
use Rattle.line_protocol.specs.Values.{Data, codes}
use Rattle.line_protocol.specs.declared.request.field.Field.TheVariants as field

abbrev pub encode_fields : Data → Result Ask Field
encode_fields d = do
  from ← need field.From (number_at d (codes "from") max_number)
  to ← need field.To (number_at d (codes "to") max_number)
  label ← need field.Label (text_at d (codes "label"))
  mode ← need field.Mode (encode_mode_at d)
  Ok (Asks (Encode from to label mode))
