use Rattle.std.proofs.{Common.◌≡◌, Common.◌+◌, Common.◌-◌, Common.◌++◌, Common.length, Common.drop, Common.ap, Common.◌∙◌, Common.arith, Math.Seq.take-length}
use Rattle.lane_ascii.proofs.Widens.{written, more}
use Rattle.lane_ascii.proofs.widening.widen_long.Goals as goal

pub steps-preserved : goal.steps-preserved
steps-preserved c =
    let at = c.steps.at in (
      omega arith,
      omega arith,
      more c.args.bytes.now c.args.units.now at at 16 _ _ (omega arith) (omega arith) (omega arith) c.steps.invariant.2 c.widen_16.ensures,
    )

pub returns : goal.returns
returns c =
    let bytes = c.args.bytes.now in
    let units = c.args.units.now in
    let last = length bytes - 16 in
    let end : last + 16 ≡ length bytes = omega arith in
    more bytes units c.steps.at last 16 _ _ (omega arith) (omega arith) (omega arith) c.steps.invariant.2 c.widen_16-2.ensures
    ∙ ap (written bytes units) end ∙ ap (λ front. front ++ drop (length bytes) units) (take-length bytes)
