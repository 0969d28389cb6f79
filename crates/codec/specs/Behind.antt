-- The state of a decoder after the first bytes of a document.
use Rattle.std.specs.Prelude.{ℕ, List, drop, option_map}
use Rattle.std.specs.Option.{unwrap_or}
use Rattle.enc_names.specs.declared.{encoding.Encoding.Encoding, setting.Setting.Setting}
use Rattle.index_loader.specs.Files.{Files, indexes_of}
use Rattle.codec.specs.declared.state.AnyState.{AnyState}
use Rattle.codec.specs.{declared.state.AnyState.TheVariants.Sniffing, Any.standing, Mark.in_force, Mark.mark_length, Sniffing.prefix_under}

-- the state of an encoding's decoder after the bytes
abbrev pub state_in : Files → Encoding → List ℕ → AnyState
state_in files encoding = (standing (indexes_of files encoding)).state

-- the bytes themselves while they are a proper prefix of a byte order mark that is looked for. Otherwise it is the effective encoding
-- with the state of its own decoder after the mark
unfoldable pub state_behind : Files → Setting → List ℕ → AnyState
state_behind files setting bytes =
    unwrap_or (option_map Sniffing (prefix_under setting bytes)) (state_in files (in_force setting bytes) (drop (mark_length setting bytes) bytes))
