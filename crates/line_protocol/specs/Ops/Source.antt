-- `source`: its fields after the name of its document, in the order of their checks.
use Rattle.desk.specs.Commands.{Asks, Source}
use Rattle.line_protocol.specs.Fields.{Ask, Field, Result, Ok, max_number, ◌>>=◌, need, number_at}
use Rattle.line_protocol.specs.Values.{Data, codes}
use Rattle.line_protocol.specs.declared.request.field.Field.TheVariants as field

abbrev pub source_fields : Data → Result Ask Field
source_fields d = do
  at ← need field.At (number_at d (codes "at") max_number)
  len ← need field.Len (number_at d (codes "len") max_number)
  Ok (Asks (Source at len))
