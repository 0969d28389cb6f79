use Rattle.std.proofs.Common.{length, ◌-◌, ◌≡◌, ◌*◌, ◌≤◌, ◌++◌, take, drop}
use Rattle.decoder_core.specs.declared.utf16.ByteOrder.TheVariants.{LittleEndian}
use Rattle.encoders.specs.Utf16.{units_bytes}
use Rattle.encoders.proofs.utf16.write_little.Given as goal

abbrev pub invariant-units : goal.invariant-units
invariant-units l = record {
  within : l.at ≤ length l.units;
  so_far : units_bytes LittleEndian l.units ≡ take (2 * l.at) l.block ++ units_bytes LittleEndian (drop l.at l.units);
}

abbrev pub decreases-units : goal.decreases-units
decreases-units l = length l.units - l.at
