-- Decoding of bytes (Encoding Standard, "decode"; where marks are kept, without its "BOM sniff").
use Rattle.std.specs.Prelude.{ℕ, List, length, drop, slice_get, Option}
use Rattle.enc_names.specs.declared.{encoding.Encoding.Encoding, setting.Setting.Setting, place.Place.Place}
use Rattle.index_loader.specs.Files.{Files, indexes_of}
use Rattle.decoder_core.specs.{declared.item.Ended.Ended, declared.placed.Placed.Placed, Placed.places, Text.error_places}
use Rattle.codec.specs.{Coding.coding, Coding.coding_run, Mark.in_force, Mark.mark_length}

-- the effective encoding, the length of the byte order mark, and the items of the run after it
pub record Decoded : Type 0 where
  pub encoding : Encoding
  pub bom : ℕ
  pub items : List Placed

-- the run of an encoding's decoder over the bytes
abbrev pub run_in : Files → Encoding → List ℕ → List Ended
run_in files encoding bytes = coding_run (coding (indexes_of files encoding)) bytes

-- a look for a byte order mark under the setting, and then the run after it
unfoldable pub decode : Files → Setting → List ℕ → Decoded
decode files setting bytes = record {
  encoding = in_force setting bytes;
  bom = mark_length setting bytes;
  items = places (length bytes) (mark_length setting bytes) (run_in files (in_force setting bytes) (drop (mark_length setting bytes) bytes));
}

-- where error mode "fatal" stops: the place of the first error
abbrev pub fatal_of : List Placed → Option Place
fatal_of items = slice_get (error_places items) 0
