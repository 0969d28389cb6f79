use Rattle.std.proofs.Common.{◌-◌, ◌≤◌, length, take, drop, arith}
use Rattle.devices.proofs.Taking.{taken-none, taken-more, taken-until}
use Rattle.devices.proofs.reading.take_all.Goals as goal

pub loop-done-init : goal.loop-done-init
loop-done-init g c = record {
  within = omega arith;
  taken = taken-none _ _;
  ready = c.requires.ready;
  room = omega arith;
}

pub loop-done-preserved : goal.loop-done-preserved
loop-done-preserved g c =
    let slices = c.law_slices.ensures in
    let small : c.in-Ok.n ≤ length c.args.bytes.now - c.loop-done.done =
    slices.within c.args.bytes.now c.loop-done.done c.in-Ok.n c.in-Ok.ensures.bound in record {
      within = omega arith;
      taken = rw (← slices.more c.args.bytes.now c.loop-done.done c.in-Ok.n small) (taken-more _ _ _ _ _ _ c.loop-done.invariant.taken c.in-Ok.ensures.takes);
      ready = c.in-Ok.ensures.ready;
      room = omega (arith, c.in-Ok.ensures.room, c.loop-done.invariant.room);
    }

pub returns-in-Err-clause-takes : goal.returns-in-Err-clause-takes
returns-in-Err-clause-takes g c =
    let bytes = c.args.bytes.now in
    let done = c.loop-done.done in
    let whole = taken-until g.T.Taker.takes (g.T.Taker.stops c.in-Err.fault) (take done bytes) (take (length bytes - done) (drop done bytes))
    (c.args.taker.now, c.args.on.now, c.args.writer.now) (c.loop-done.taker, c.loop-done.on, c.loop-done.writer)
    (c.take.new.self, c.take.new.on, c.take.new.writer)
    c.loop-done.invariant.taken c.in-Err.ensures.takes in
    rw (c.law_slices.ensures.rest bytes done) at whole
