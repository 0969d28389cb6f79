use Rattle.std.proofs.Common.{◌≡◌, ◌++◌, take}
use Rattle.devices.specs.Histories.{bytes_of}
use Rattle.devices.proofs.history.History.extend.Given as goal

abbrev pub invariant-loop-byte : goal.invariant-loop-byte
invariant-loop-byte l = bytes_of l.self ≡ bytes_of l.initial.self ++ take l.byte-index l.bytes
