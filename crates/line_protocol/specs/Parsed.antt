-- The data that a value of a line stands for, however it was read, and the command that is read off it.
use Rattle.std.specs.Prelude.{◌≡◌, Err}
use Rattle.desk.specs.{Commands.Asked, Commands.asked, declared.ops.Command.Command}
use Rattle.serde_json.specs.{Data.Data, View.view}
use Rattle.line_protocol.specs.{Fields.Ask, Fields.Field, Fields.Result, Fields.Ok, Fields.on_document, Flat.value_data, Flat.object_data}
use Rattle.line_protocol.specs.declared.request.parsed.Parsed.{Parsed, TheVariants.Plain, TheVariants.Flat, TheVariants.Tree}

abbrev pub parsed_data : Parsed → Data
parsed_data (Plain v) = value_data v
parsed_data (Flat o) = object_data o.now
parsed_data (Tree v) = view v.now

abbrev pub command_asked : Result Command Field → Result Asked Field
command_asked (Ok command) = Ok (asked command)
command_asked (Err f) = Err f

-- the command of these fields, after the name of its document, or the first faulty field
abbrev pub IsCommandBy : (Data → Result Ask Field) → Parsed → Result Command Field → Type 0
IsCommandBy fields value result = command_asked result ≡ on_document fields (parsed_data value)
