-- `diagnostics`: its fields after the name of its document, in the order of their checks, and its reply.
use Rattle.std.specs.Prelude.{[], ◌∷◌}
use Rattle.desk.specs.{Commands.Asks, Commands.Diagnostics, declared.ops.diagnostics.DiagnosticsReply.DiagnosticsReply}
use Rattle.position_map.specs.declared.diagnostic.Diagnostic.{Diagnostic}
use Rattle.line_protocol.specs.Fields.{Ask, Field, Result, Ok, ◌>>=◌, need, max_entries, number_at, unit_at, page_start_at}
use Rattle.line_protocol.specs.Values.{ℕ, Data, codes, array, object, no_members, member, whole, items_of, numbers_data}
use Rattle.line_protocol.specs.declared.request.field.Field.TheVariants as field

abbrev pub diagnostics_fields : Data → Result Ask Field
diagnostics_fields d = do
  start ← page_start_at d
  max ← need field.Max (number_at d (codes "max") max_entries)
  unit ← need field.Unit (unit_at d)
  Ok (Asks (Diagnostics start max unit))

-- the place in the bytes, then the position of its start and the one of its end
abbrev pub diagnostic_data : Diagnostic → Data
diagnostic_data x =
    numbers_data (x.place.from ∷ x.place.to ∷ x.range.start.line ∷ x.range.start.character ∷ x.range.end.line ∷ x.range.end.character ∷ [])

abbrev pub diagnostics_data : ℕ → DiagnosticsReply → Data
diagnostics_data id r =
    object (member (codes "diagnostics") (array (items_of diagnostic_data r.diagnostics)) (member (codes "id") (whole id)
    (member (codes "rev") (whole r.rev) (member (codes "total") (whole r.total) no_members))))
