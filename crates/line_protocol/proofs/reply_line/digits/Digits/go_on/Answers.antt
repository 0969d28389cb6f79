use Rattle.std.proofs.Common.{arith, ◌∙◌}
use Rattle.line_protocol.proofs.Decimals.{last-digit, raised}
use Rattle.line_protocol.proofs.reply_line.digits.Digits.go_on.Goals as goal

pub overflow_sub-self-inside : goal.overflow_sub-self-inside
overflow_sub-self-inside c =
    omega (arith, last-digit c.args.first c.self.inside.begin c.self.inside.text c.ranges.first.fits c.self.told (c.self.view_is ∙ c.requires))

pub returns-then-second-first-2 : goal.returns-then-second-first-2
returns-then-second-first-2 c =
    let held = c.self.inside in
    let is = c.self.view_is ∙ c.requires in
    let last = last-digit c.args.first held.begin held.text c.ranges.first.fits c.self.told is in
    raised c.args.first c.args.second held.begin _ held.text c.ranges.first.fits c.ranges.second.fits c.self.invariant.within c.self.told is
    (omega (arith, last, c.if-second-first.true, c.if-second-first-2.true)) (omega (arith, last, c.if-second-first.true, c.if-second-first-2.true))
