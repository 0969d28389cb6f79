use Rattle.std.proofs.Common.{◌≡◌, sym, ap, ◌∙◌, ℕ, ◌-◌, ◌<◌, ◌≤◌, Some, rules, to_z, of_z, w64}
use Rattle.state_memo.{specs.Runs.item_of_kind, proofs.Splitting.item-at, proofs.Splitting.no-item}
use Rattle.state_memo.proofs.run.Run.item.Goals as goal

pub returns-then-k-from : goal.returns-then-k-from
returns-then-k-from c = let past : c.args.self.more < c.args.k = search rules in sym (no-item c.args.self c.args.k past)

pub returns : goal.returns
returns c =
    let within : c.args.k ≤ c.args.self.more = search rules in
    let end : to_z w64 (of_z w64 c.end_at.result) ≡ c.end_at.result = search rules in
    ap Some (c.at.ensures ∙ ap (item_of_kind c.args.self.kind) (end ∙ c.end_at.ensures))
    ∙ sym (item-at c.args.self c.args.k (c.from-2.result - c.args.k) within (ap (λ (n : ℕ). n - c.args.k) c.from-2.ensures))
