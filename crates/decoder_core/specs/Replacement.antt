-- The replacement decoder (Encoding Standard, "replacement decoder").
use Rattle.std.specs.Prelude.{[], Some, None}
use Rattle.decoder_core.specs.{Forms.gives, Forms.finishes, Queue.Table, declared.item.Item.TheVariants.Error}
use Rattle.decoder_core.specs.declared.replacement.ReplacementState.{ReplacementState, TheVariants.Unread, TheVariants.ErrorReturned, TheVariants.Done}

-- one error for the first byte; the next byte finishes, and what follows it is never read
abbrev pub replacement : Table ReplacementState
replacement s None = finishes s
replacement Unread (Some b) = gives ErrorReturned Error []
replacement ErrorReturned (Some b) = finishes Done
replacement Done (Some b) = finishes Done
