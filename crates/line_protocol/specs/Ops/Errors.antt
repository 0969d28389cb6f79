-- `errors`: its fields after the name of its document, in the order of their checks, and its reply.
use Rattle.desk.specs.{Commands.Asks, Commands.Errors, declared.ops.errors.ErrorsReply.ErrorsReply}
use Rattle.line_protocol.specs.Fields.{Ask, Field, Result, Ok, max_number, ◌>>=◌, need, max_entries, number_at}
use Rattle.line_protocol.specs.Values.{ℕ, Data, codes, array, object, no_members, member, whole, items_of, place_data}
use Rattle.line_protocol.specs.declared.request.field.Field.TheVariants as field

abbrev pub errors_fields : Data → Result Ask Field
errors_fields d = do
  from ← need field.From (number_at d (codes "from") max_number)
  max ← need field.Max (number_at d (codes "max") max_entries)
  Ok (Asks (Errors from max))

abbrev pub errors_data : ℕ → ErrorsReply → Data
errors_data id r =
    object (member (codes "errors") (array (items_of place_data r.places)) (member (codes "id") (whole id)
    (member (codes "rev") (whole r.rev) (member (codes "total") (whole r.total) no_members))))
