use Rattle.std.{proofs.Common.length, proofs.Common.◌-◌, proofs.Common.◌≡◌, proofs.Common.◌≤◌, proofs.Common.take, specs.Io.KnownBytes.Appends}
use Rattle.devices.proofs.device.write_all.Given as goal

abbrev pub invariant-loop-done : goal.invariant-loop-done
invariant-loop-done g l = record {
  within : l.done ≤ length l.bytes;
  out : Appends (g.W.Outlet.took l.initial.writer).written (g.W.Outlet.took l.writer).written (take l.done l.bytes);
  fine : (g.W.Outlet.took l.writer).failures ≡ (g.W.Outlet.took l.initial.writer).failures;
}

abbrev pub decreases-loop-done : goal.decreases-loop-done
decreases-loop-done g l = length l.bytes - l.done
