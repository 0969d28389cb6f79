-- The single-byte decoder (Encoding Standard, "single-byte decoder").
use Rattle.std.specs.Prelude.{ℕ, ◌-◌, [], Option, Some, None, if◌then◌else◌}
use Rattle.decoder_core.specs.declared.item.Item.{Item, TheVariants.One}
use Rattle.decoder_core.specs.{declared.one_byte.OneByteState.OneByteState, Queue.Table, Forms.found, Forms.gives, Forms.finishes, Forms.is_ascii}

-- an ASCII byte is itself; another is looked up in the encoding's index
abbrev pub single_byte_item : (ℕ → Option ℕ) → ℕ → Item
single_byte_item index b = if is_ascii b then One b else found (index (b - 0x80))

abbrev pub single_byte : (ℕ → Option ℕ) → Table OneByteState
single_byte index s None = finishes s
single_byte index s (Some b) = gives s (single_byte_item index b) []
