-- `open`: its fields after the name of its document, in the order of their checks.
use Rattle.desk.specs.Commands.{Open}
use Rattle.line_protocol.specs.Fields.{Ask, Field, Result, Ok, ◌>>=◌, need, text_at, bom_at}
use Rattle.line_protocol.specs.Values.{Data, codes}
use Rattle.line_protocol.specs.declared.request.field.Field.TheVariants as field

abbrev pub open_fields : Data → Result Ask Field
open_fields d = do
  label ← need field.Label (text_at d (codes "label"))
  bytes ← need field.Bytes (text_at d (codes "bytes"))
  bom ← need field.Bom (bom_at d)
  Ok (Open label bytes bom)
