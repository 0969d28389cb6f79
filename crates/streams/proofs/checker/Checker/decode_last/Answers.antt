use Rattle.std.proofs.Common.{arith, ◌+◌, ◌^◌, ◌<◌, w64, to_z-of_z}
use Rattle.streams.proofs.{Checked.part-is, Lifting.IfOk-three, Lifting.IfOk-weaker}
use Rattle.streams.proofs.checker.Checker.decode_last.Goals as goal

pub returns-clause-part : goal.returns-clause-part
returns-clause-part c =
    let room : c.self.inside.bytes + 0 < 2 ^ 64 = omega (arith, c.distance.ensures.fits.1) in
    let same = to_z-of_z {w = w64} c.in_ok-distance.ensures.signed in
    rw (← c.self.view_is)
    (IfOk-three c.finish.result
    (λ d text end errors. part-is _ 0 c.in_ok-distance.field-0 c.args.last.now c.new-text.result c.take_last.new.self d room c.distance.ensures.fits.0
    c.in_ok-distance.ensures.value (rw same at c.new-text.ensures) c.in_ok-take_last.ensures text end errors)
    c.finish.ensures.text c.finish.ensures.end c.finish.ensures.errors)

pub returns-clause-fits : goal.returns-clause-fits
returns-clause-fits c = rw (← c.self.view_is) (IfOk-weaker c.finish.result (λ d end. c.distance.ensures.fits.1) c.finish.ensures.end)
