-- `since`: its fields after the name of its document, in the order of their checks, and its reply.
use Rattle.std.specs.Prelude.{Option, Some, None}
use Rattle.desk.specs.{Commands.Asks, Commands.Since, declared.untouched.Patch.Patch, declared.ops.since.SinceReply.SinceReply}
use Rattle.position_map.specs.declared.position.Range.{Range}
use Rattle.line_protocol.specs.Fields.{Ask, Field, Result, Ok, max_number, ◌>>=◌, need, number_at, optional_unit_at}
use Rattle.line_protocol.specs.Values.{ℕ, Data, codes, object, no_members, member, whole, point_data}
use Rattle.line_protocol.specs.declared.request.field.Field.TheVariants as field

abbrev pub since_fields : Data → Result Ask Field
since_fields d = do
  rev ← need field.Rev (number_at d (codes "rev") max_number)
  unit ← need field.Unit (optional_unit_at d)
  Ok (Asks (Since rev unit))

abbrev pub patch_data : ℕ → ℕ → Patch → Data
patch_data id rev p =
    object (member (codes "at") (whole p.at) (member (codes "del") (whole p.del) (member (codes "id") (whole id)
    (member (codes "ins") (whole p.ins) (member (codes "rev") (whole rev) no_members)))))

abbrev pub ranged_patch_data : ℕ → ℕ → Patch → Range → Data
ranged_patch_data id rev p range =
    object (member (codes "at") (whole p.at) (member (codes "del") (whole p.del) (member (codes "end") (point_data range.end)
    (member (codes "id") (whole id) (member (codes "ins") (whole p.ins) (member (codes "rev") (whole rev)
    (member (codes "start") (point_data range.start) no_members)))))))

abbrev pub patch_data_in : ℕ → ℕ → Patch → Option Range → Data
patch_data_in id rev p None = patch_data id rev p
patch_data_in id rev p (Some range) = ranged_patch_data id rev p range

abbrev pub since_data : ℕ → SinceReply → Data
since_data id r = patch_data_in id r.rev r.patch r.range
