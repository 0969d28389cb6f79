use Rattle.std.proofs.Common.{◌≡◌, ◌+◌, arith, rules, sym, pos, ◌+ℤ◌, ◌<ℤ◌, to_z, of_z, w64}
use Rattle.state_memo.specs.{Plain.code_points_behind, Runs.items_of_last}
use Rattle.state_memo.proofs.Prelude.{scalars_before}
use Rattle.state_memo.proofs.{PlainTexts.before-behind, PlainTexts.before-front, Walks.before-few}
use Rattle.state_memo.proofs.plain_items.PlainItems.scalars_before.Goals as goal

pub returns-then-limit-from : goal.returns-then-limit-from
returns-then-limit-from c =
    let p = c.self.inside in
    let limit : to_z w64 (of_z w64 c.args.limit) ≡ c.args.limit = search rules in
    let behind : c.args.limit <ℤ p.from = search rules in
    rw (c.before_in-before.ensures, limit, ← c.self.view_is)
    (sym (before-front (items_of_last p.front) p.stride p.from p.output (code_points_behind p.front p.text) c.args.limit behind))

-- what is before and what is after, together
sum-is : (c : goal.After-scalars_within) → c.before_in-before.result + c.scalars_within.result ≡ scalars_before c.args.limit c.args.self.now
sum-is c =
    let p = c.self.inside in
    let rest = code_points_behind p.front p.text in
    let limit : to_z w64 (of_z w64 c.args.limit) ≡ c.args.limit = search rules in
    let width : c.args.limit ≡ p.from +ℤ pos c.abs_diff-width.result = search rules in
    rw (c.before_in-before.ensures, c.scalars_within.ensures, limit, c.behind.ensures, ← c.self.view_is)
    (sym (before-behind (items_of_last p.front) p.stride p.from p.output rest c.args.limit c.abs_diff-width.result width))

pub overflow_add-result : goal.overflow_add-result
overflow_add-result c = omega (arith, sum-is c, before-few c.args.limit c.args.self.now, c.requires)

pub returns : goal.returns
returns c = sum-is c
