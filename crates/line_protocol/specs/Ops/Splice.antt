-- `splice`: its fields after the name of its document, in the order of their checks.
use Rattle.desk.specs.Commands.{Splice}
use Rattle.line_protocol.specs.Fields.{Ask, Field, Result, Ok, max_number, ◌>>=◌, need, number_at, text_at}
use Rattle.line_protocol.specs.Values.{Data, codes}
use Rattle.line_protocol.specs.declared.request.field.Field.TheVariants as field

abbrev pub splice_fields : Data → Result Ask Field
splice_fields d = do
  rev ← need field.Rev (number_at d (codes "rev") max_number)
  at ← need field.At (number_at d (codes "at") max_number)
  del ← need field.Del (number_at d (codes "del") max_number)
  bytes ← need field.Bytes (text_at d (codes "bytes"))
  Ok (Splice rev at del bytes)
