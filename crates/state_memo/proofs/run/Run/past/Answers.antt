use Rattle.std.proofs.Common.{rules, ◌≡◌, ap, ◌∙◌, arith, ◌<◌, ◌+◌, ◌*◌, ◌-◌, ◌/◌, true, ℕ, suc, pos, ◌+ℤ◌}
use Rattle.state_memo.proofs.{Prelude.le_z, Prelude.scalars_of, Walks.before-all, Walks.before-far, Walks.before-div, Walks.rest-none}
use Rattle.state_memo.proofs.run.Run.past.Goals as goal

pub returns-then-last-limit : goal.returns-then-last-limit
returns-then-last-limit c =
    let e : le_z c.args.self.last c.args.limit ≡ true = search rules in
    before-all c.args.self.kind c.args.self.step c.args.limit c.args.self.last (suc c.args.self.more) e
    ∙ ap (λ (k : ℕ). k * scalars_of c.args.self.kind) (omega arith)

pub returns-then-more-step : goal.returns-then-more-step
returns-then-more-step c =
    let e : c.args.self.last ≡ c.args.limit +ℤ pos c.abs_diff-gap.result = search rules in
    let far : c.args.self.more * c.args.self.step < c.abs_diff-gap.result = search rules in
    before-far c.args.self.kind c.args.self.step c.args.limit c.args.self.last c.args.self.more c.abs_diff-gap.result e far
    ∙ rest-none (c.args.self.more + 1) (c.from-more.result + 1) (scalars_of c.args.self.kind) (ap (λ (n : ℕ). n + 1) c.from-more.ensures)

pub returns : goal.returns
returns c =
    let gap : 0 < c.abs_diff-gap.result = search rules in
    let some : 0 < c.from-step.result = search rules in
    let e : c.args.self.last ≡ c.args.limit +ℤ pos c.abs_diff-gap.result = search rules in
    before-div c.args.self c.args.limit c.abs_diff-gap.result c.from-step.result c.from-step.ensures some gap e
    ∙ ap (λ (n : ℕ). (n - ((c.abs_diff-gap.result - 1) / c.from-step.result + 1)) * scalars_of c.args.self.kind) (omega arith)
