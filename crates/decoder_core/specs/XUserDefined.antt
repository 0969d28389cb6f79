-- The x-user-defined decoder (Encoding Standard, "x-user-defined decoder").
use Rattle.std.specs.Prelude.{ℕ, ◌+◌, ◌-◌, [], Some, None, if◌then◌else◌}
use Rattle.decoder_core.specs.declared.item.Item.TheVariants.{One}
use Rattle.decoder_core.specs.{declared.one_byte.OneByteState.OneByteState, Queue.Table, Forms.gives, Forms.finishes, Forms.is_ascii}

-- an ASCII byte is itself; another is a code point of the Private Use Area
abbrev pub x_user_defined_code_point : ℕ → ℕ
x_user_defined_code_point b = if is_ascii b then b else 0xF780 + (b - 0x80)

abbrev pub x_user_defined : Table OneByteState
x_user_defined s None = finishes s
x_user_defined s (Some b) = gives s (One (x_user_defined_code_point b)) []
