use Rattle.std.proofs.Common.{length, take, ◌≤◌, ◌-◌}
use Rattle.decoder_core.proofs.Prelude.{IsUtf8}
use Rattle.decoder_core.proofs.utf8_own.parts_run.Given as goal

abbrev pub invariant-parts : goal.invariant-parts
invariant-parts l = record { within : l.valid ≤ length l.bytes; valid : IsUtf8 (take l.valid l.bytes) }

abbrev pub decreases-parts : goal.decreases-parts
decreases-parts l = length l.bytes - l.valid
