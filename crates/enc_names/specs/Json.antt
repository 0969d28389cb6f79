-- JSON texts, as label files and the lines of commands are.
use Rattle.std.specs.Prelude.{ℕ, List, if◌then◌else◌, Option, None}
use Rattle.std.specs.Str.{is_utf8}
use Rattle.serde_json.specs.{Data.Data, Read.read}

-- the value of a text that is UTF-8 and JSON (RFC 8259) of at most 127 levels
abbrev pub json_of : List ℕ → Option Data
json_of bytes = if is_utf8 bytes then read bytes else None
