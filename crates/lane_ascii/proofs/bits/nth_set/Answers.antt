use Rattle.std.proofs.Common.{sym, subst, arith}
use Rattle.lane_ascii.{specs.Flags.IsNthFlag, proofs.Flags.from_all, proofs.Flags.found}
use Rattle.lane_ascii.proofs.bits.nth_set.Goals as goal

pub returns-then-n-eq0-clause-place : goal.returns-then-n-eq0-clause-place
returns-then-n-eq0-clause-place c flags few is less =
    subst (λ k. IsNthFlag flags k c.lowest_of.result) (sym c.if-n-eq0.true) (c.lowest_of.ensures.place flags few is (omega (arith, less, c.if-n-eq0.true)))

pub returns-clause-place : goal.returns-clause-place
returns-clause-place c flags few is less =
    let n = c.args.n in
    let in_32 = c.halve-sought.ensures.half flags n (from_all flags n c.args.mask few is less) in
    let in_16 = c.halve-sought-2.ensures.half flags n in_32 in
    let in_8 = c.halve-sought-3.ensures.half flags n in_16 in
    let in_4 = c.halve-sought-4.ensures.half flags n in_8 in
    let in_2 = c.halve-sought-5.ensures.half flags n in_4 in
    found flags n c.halve.result (c.halve.ensures.half flags n in_2)
