use Rattle.std.proofs.Common.{◌∙◌}
use Rattle.streams.proofs.{Checked.row-is, Lifting.IfOk-weaker}
use Rattle.streams.proofs.checker.Checker.finish.Goals as goal

pub returns : goal.returns
returns c =
    λ files setting most read h.
    IfOk-weaker c.row.result
    (λ row is. row-is files setting most read _ c.check_end.new.self h _ (c.as_slice.ensures ∙ c.last-last.ensures) c.in_ok-check_end.ensures row is)
    c.row.ensures
