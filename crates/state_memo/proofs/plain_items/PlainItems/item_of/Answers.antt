use Rattle.std.proofs.Common.{◌∙◌, ◌-◌, ◌<◌, ◌≤◌, ap, arith, sym, length}
use Rattle.state_memo.specs.{Plain.code_points_behind, Runs.items_of_last}
use Rattle.state_memo.proofs.Prelude.{all_scalars}
use Rattle.state_memo.proofs.{PlainTexts.all-behind, PlainTexts.found-behind, PlainTexts.front-few, PlainTexts.not-found-behind, Walks.front-item}
use Rattle.state_memo.proofs.plain_items.PlainItems.item_of.Goals as goal

pub returns-then-n-before : goal.returns-then-n-before
returns-then-n-before c =
    let p = c.self.inside in
    c.number_in.ensures
    ∙ rw (← c.self.view_is) (sym (front-item (items_of_last p.front) _ c.args.n (omega (arith, c.if-n-before.true, c.scalars_in-before.ensures))))

pub returns-then-left-count_scalars : goal.returns-then-left-count_scalars
returns-then-left-count_scalars c =
    let p = c.self.inside in
    let rest = code_points_behind p.front p.text in
    let front = items_of_last p.front in
    let past : all_scalars front ≤ c.args.n = omega (arith, c.if-n-before.false, c.scalars_in-before.ensures) in
    let far : length rest ≤ c.args.n - all_scalars front =
    omega (arith, c.if-left-count_scalars.true, c.count_scalars.ensures, ap length c.behind.ensures, c.scalars_in-before.ensures) in
    rw (← c.self.view_is) (sym (not-found-behind front p.stride p.from p.output rest c.args.n past far))

pub overflow_add-result : goal.overflow_add-result
overflow_add-result c =
    let p = c.self.inside in
    let rest = code_points_behind p.front p.text in
    let all = ap all_scalars (sym c.self.view_is) ∙ all-behind (items_of_last p.front) p.stride p.from p.output rest in
    omega (arith, front-few p.front, c.count_in.ensures, all, c.if-left-count_scalars.false, c.count_scalars.ensures, ap length c.behind.ensures, c.requires)

pub returns : goal.returns
returns c =
    let p = c.self.inside in
    let rest = code_points_behind p.front p.text in
    let front = items_of_last p.front in
    let past : all_scalars front ≤ c.args.n = omega (arith, c.if-n-before.false, c.scalars_in-before.ensures) in
    let few : c.args.n - all_scalars front < length rest =
    omega (arith, c.if-left-count_scalars.false, c.count_scalars.ensures, ap length c.behind.ensures, c.scalars_in-before.ensures) in
    rw (c.scalars_in-before.ensures, ← c.self.view_is)
    (sym (found-behind front p.stride p.from p.output rest c.args.n c.count_in.result c.count_in.ensures past few))
