use Rattle.std.proofs.Common.{◌≡◌, ◌≤◌, ◌-◌, ◌*◌, ◌++◌, take, drop}
use Rattle.decoder_core.proofs.Prelude.{units_of, LittleEndian}
use Rattle.decoder_core.proofs.utf16_bulk.read_little.Given as goal

abbrev pub invariant-units : goal.invariant-units
invariant-units l = (l.at ≤ l.count)
    × (units_of LittleEndian l.bytes ≡ take l.at l.units ++ units_of LittleEndian (drop (2 * l.at) l.bytes))

abbrev pub decreases-units : goal.decreases-units
decreases-units l = l.count - l.at
