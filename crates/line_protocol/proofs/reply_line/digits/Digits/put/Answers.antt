use Rattle.std.proofs.Common.{◌-◌, ◌++◌, ℕ, List, take, ap, ◌∙◌}
use Rattle.line_protocol.proofs.Decimals.{shown}
use Rattle.line_protocol.proofs.reply_line.digits.Digits.put.Goals as goal

pub returns-in-Some-clause-text : goal.returns-in-Some-clause-text
returns-in-Some-clause-text c =
    let held = c.self.inside in
    c.extend_first.ensures
    ∙ ap (λ (t : List ℕ). c.args.line.now ++ take (20 - held.begin) t) c.in-Some.ensures.cases.same
    ∙ ap (λ (t : List ℕ). c.args.line.now ++ t) (shown held.begin held.text c.self.invariant.within ∙ c.self.view_is)
