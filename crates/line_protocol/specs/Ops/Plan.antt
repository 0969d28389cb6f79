-- `plan`: its fields after the name of its document, in the order of their checks, and its reply.
use Rattle.std.specs.Prelude.{length}
use Rattle.desk.specs.{Commands.Asks, Commands.Plan, declared.ops.plan.PlanReply.PlanReply}
use Rattle.line_protocol.specs.Fields.{Ask, Field, Result, Ok, ◌>>=◌, need, text_at, unit_at, range_at}
use Rattle.line_protocol.specs.Values.{ℕ, Data, codes, boolean, object, no_members, member, whole, base64}
use Rattle.line_protocol.specs.declared.request.field.Field.TheVariants as field

abbrev pub plan_fields : Data → Result Ask Field
plan_fields d = do
  unit ← need field.Unit (unit_at d)
  range ← need field.Range (range_at d)
  text ← need field.Text (text_at d (codes "text"))
  Ok (Asks (Plan unit range text))

-- the bytes in base64
abbrev pub plan_data : ℕ → PlanReply → Data
plan_data id r =
    object (member (codes "at") (whole r.at) (member (codes "bytes") (base64 r.bytes) (member (codes "del") (whole (length r.old))
    (member (codes "id") (whole id) (member (codes "kept") (boolean r.kept) (member (codes "old") (base64 r.old)
    (member (codes "rev") (whole r.rev) no_members)))))))
