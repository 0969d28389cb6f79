use Rattle.std.proofs.Common.{◌++◌, ap, sym, length, ◌∙◌, ℕ, List, [], append-nil}
use Rattle.state_memo.proofs.Prelude.{chars, chars-nil, Ended, errors_in, items_under_way}
use Rattle.state_memo.proofs.gathering.Gathering.new.Goals as goal

pub returns : goal.returns
returns c =
    let items = items_under_way c.new-2.result.closed.items c.new-2.result.last in
    ap (λ (t : List ℕ). record { text = t; items = items ++ [] }) (ap chars c.new.ensures ∙ chars-nil)
    ∙ ap (λ (t : List Ended). record { text = []; items = t }) (append-nil items ∙ c.new-2.ensures)

pub invariant_of-result : goal.invariant_of-result
invariant_of-result c = record {
  counted = sym (ap length (ap chars c.new.ensures ∙ chars-nil));
  tail = tt;
  none = λ _. ap errors_in c.new-2.ensures;
}
