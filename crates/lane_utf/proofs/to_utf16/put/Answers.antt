use Rattle.std.{proofs.Common.ap, proofs.Common.sym, proofs.Common.◌∙◌, specs.Simd.Lanes.put_chunk}
use Rattle.lane_utf.proofs.Putting.{one_put, two_put, form_low, form_high}
use Rattle.lane_utf.proofs.to_utf16.put.Goals as goal

pub returns-then-c-lt65536-clause-units : goal.returns-then-c-lt65536-clause-units
returns-then-c-lt65536-clause-units c =
    one_put c.args.at _ c.args.units.now ∙ ap (put_chunk c.args.at c.args.units.now) (sym (form_low c.args.c c.if-c-lt65536.true))

pub returns-clause-units : goal.returns-clause-units
returns-clause-units c =
    two_put c.args.at _ _ c.args.units.now ∙ ap (put_chunk c.args.at c.args.units.now) (sym (form_high c.args.c c.if-c-lt65536.false))
