use Rattle.std.proofs.Common.{◌-◌, ◌≤◌, length, arith, ◌∙◌}
use Rattle.devices.proofs.Slices.{written_more, lent_within}
use Rattle.devices.proofs.device.write_all.Goals as goal

pub loop-done-preserved : goal.loop-done-preserved
loop-done-preserved g c =
    let small : c.in-Ok.n ≤ length c.args.bytes.now - c.loop-done.done =
    lent_within c.args.bytes.now c.loop-done.done c.in-Ok.n c.in-Ok.ensures.bound in record {
      within = omega arith;
      out = written_more _ _ _ c.args.bytes.now c.loop-done.done c.in-Ok.n small c.loop-done.invariant.out c.in-Ok.ensures.bytes;
      fine = c.in-Ok.ensures.failures ∙ c.loop-done.invariant.fine;
    }
