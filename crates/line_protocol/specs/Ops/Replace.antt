-- `replace`: its fields after the name of its document, in the order of their checks. Its reply is that of `change`.
use Rattle.desk.specs.Commands.{Replace}
use Rattle.line_protocol.specs.Fields.{Ask, Field, Result, Ok, max_number, ◌>>=◌, need, number_at, text_at, unit_at, range_at}
use Rattle.line_protocol.specs.Values.{Data, codes}
use Rattle.line_protocol.specs.declared.request.field.Field.TheVariants as field

abbrev pub replace_fields : Data → Result Ask Field
replace_fields d = do
  rev ← need field.Rev (number_at d (codes "rev") max_number)
  unit ← need field.Unit (unit_at d)
  range ← need field.Range (range_at d)
  text ← need field.Text (text_at d (codes "text"))
  bytes ← need field.Bytes (text_at d (codes "bytes"))
  Ok (Replace rev unit range text bytes)
