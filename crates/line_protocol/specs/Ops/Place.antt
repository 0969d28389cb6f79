-- `place`: its fields after the name of its document, in the order of their checks, and its reply.
use Rattle.std.specs.Prelude.{Option, Some, None}
use Rattle.desk.specs.{Commands.Asks, Commands.Place, declared.ops.place.PlaceReply.PlaceReply}
use Rattle.enc_names.specs.declared.place.Place.{Place as BytePlace}
use Rattle.line_protocol.specs.Fields.{Ask, Field, Result, Ok, max_number, ◌>>=◌, need, number_at, place_unit_at}
use Rattle.line_protocol.specs.Values.{ℕ, Data, codes, null, object, no_members, member, whole, place_data}
use Rattle.line_protocol.specs.declared.request.field.Field.TheVariants as field

abbrev pub place_fields : Data → Result Ask Field
place_fields d = do
  unit ← need field.Unit (place_unit_at d)
  value ← need field.Value (number_at d (codes "value") max_number)
  Ok (Asks (Place unit value))

abbrev pub place_or_null : Option BytePlace → Data
place_or_null None = null
place_or_null (Some p) = place_data p

abbrev pub found_place_data : ℕ → PlaceReply → Data
found_place_data id r =
    object (member (codes "id") (whole id) (member (codes "place") (place_or_null r.place) (member (codes "rev") (whole r.rev)
    (member (codes "utf16") (whole r.utf16) (member (codes "utf32") (whole r.utf32) (member (codes "utf8") (whole r.utf8) no_members))))))
