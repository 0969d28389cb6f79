-- `text`: its fields after the name of its document, in the order of their checks, and its reply.
use Rattle.desk.specs.{Commands.Asks, Commands.Text, declared.ops.text.TextReply.TextReply}
use Rattle.line_protocol.specs.Fields.{Ask, Field, Result, Ok, max_number, ◌>>=◌, need, number_at, text_mode_at}
use Rattle.line_protocol.specs.Values.{ℕ, Data, codes, string, object, no_members, member, whole}
use Rattle.line_protocol.specs.declared.request.field.Field.TheVariants as field

abbrev pub text_fields : Data → Result Ask Field
text_fields d = do
  from ← need field.From (number_at d (codes "from") max_number)
  to ← need field.To (number_at d (codes "to") max_number)
  mode ← need field.Mode (text_mode_at d)
  Ok (Asks (Text from to mode))

abbrev pub text_data : ℕ → TextReply → Data
text_data id r = object (member (codes "id") (whole id) (member (codes "rev") (whole r.rev) (member (codes "text") (string r.text) no_members)))
