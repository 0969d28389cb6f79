-- The text and the errors of some items.
use Rattle.std.specs.Prelude.{◌≡◌, List, string_bytes}
use Rattle.std.specs.Str.{chars}
use Rattle.decoder_core.specs.{declared.placed.Placed.Placed, Text.code_points, Text.error_places}
use Rattle.codec.specs.declared.decoding.Decoding.{Decoding}

pub record IsDecoding (items : List Placed) (d : Decoding) : Type 0 where
  pub text : chars (string_bytes d.text) ≡ code_points items
  pub errors : d.errors.items ≡ error_places items
