use Rattle.std.proofs.Common.{◌≡◌, ◌∙◌, ◌-◌, ◌≤◌, ap, arith, rules, sym, ℕ, length, Some, to_z, of_z, w16}
use Rattle.state_memo.specs.{Plain.code_points_behind, Plain.item_behind, Runs.items_of_last}
use Rattle.state_memo.proofs.Prelude.{chars, ints, length-drop, run_width}
use Rattle.state_memo.proofs.PlainTexts.{get-behind, next-width, none-past}
use Rattle.lemmas.proofs.Lists.{get-front}
use Rattle.state_memo.proofs.plain_items.PlainItems.get.Goals as goal

pub returns-then-k-before : goal.returns-then-k-before
returns-then-k-before c =
    let p = c.self.inside in
    c.item_in.ensures
    ∙ rw (← c.self.view_is) (sym (get-front (items_of_last p.front) _ c.args.k (omega (arith, c.if-k-before.true, c.count_in-before.ensures))))

pub returns-in_err-front : goal.returns-in_err-front
returns-in_err-front c =
    let p = c.self.inside in
    let rest = code_points_behind p.front p.text in
    let front = items_of_last p.front in
    let past : length front ≤ c.args.k = omega (arith, c.if-k-before.false, c.count_in-before.ensures) in
    let far : length rest ≤ c.args.k - length front =
    omega (arith, c.in_err-front.ensures.cut, ap length c.behind.ensures, c.count_in-before.ensures) in
    rw (c.from_residual.ensures, ← c.self.view_is) (sym (none-past front p.stride p.from p.output rest c.args.k past far))

pub returns-in_err-width : goal.returns-in_err-width
returns-in_err-width c =
    let p = c.self.inside in
    let rest = code_points_behind p.front p.text in
    let front = items_of_last p.front in
    let left = c.args.k - c.count_in-before.result in
    let past : length front ≤ c.args.k = omega (arith, c.if-k-before.false, c.count_in-before.ensures) in
    let none = ap length (sym c.in_ok-front.ensures.back ∙ c.in_err-width.ensures) in
    let far : length rest ≤ c.args.k - length front =
    omega (arith, none, length-drop left (chars c.behind.result.now), ap length c.behind.ensures, c.count_in-before.ensures) in
    rw (c.from_residual-in_err-width.ensures, ← c.self.view_is) (sym (none-past front p.stride p.from p.output rest c.args.k past far))

pub item_at-requires : goal.item_at-requires
item_at-requires c =
    let p = c.self.inside in
    let cs = chars c.behind.result.now in
    let left = c.args.k - c.count_in-before.result in
    let next = c.in_ok-width.ensures in
    let from : to_z w16 (of_z w16 p.from) ≡ p.from = search rules in
    let same = ap (run_width p.stride) c.behind.ensures in
    let here = c.width_of_text-before.ensures ∙ ap (run_width p.stride) c.in_ok-front.ensures.front in
    let few = next-width p.stride cs left next.first _ (sym c.in_ok-front.ensures.back ∙ next.parts) in
    omega (arith, ints, from, c.self.invariant, same, here, next.wide, few)

pub returns : goal.returns
returns c =
    let p = c.self.inside in
    let rest = code_points_behind p.front p.text in
    let front = items_of_last p.front in
    let next = c.in_ok-width.ensures in
    let from : to_z w16 (of_z w16 p.from) ≡ p.from = search rules in
    let past : length front ≤ c.args.k = omega (arith, c.if-k-before.false, c.count_in-before.ensures) in
    let place : c.args.k - c.count_in-before.result ≡ c.args.k - length front = omega (arith, c.count_in-before.ensures) in
    let back = rw (c.behind.ensures, place) at (sym c.in_ok-front.ensures.back ∙ next.parts) in
    let width = rw (c.in_ok-front.ensures.front, c.behind.ensures, place) at c.width_of_text-before.ensures in
    rw (← c.self.view_is, get-behind front p.stride p.from p.output rest c.args.k next.first _ past back, c.item_at.ensures, from)
    (ap (λ (n : ℕ). Some (item_behind p.from p.output n)) (omega (arith, width, next.wide)))
