use Rattle.std.proofs.Common.{◌≡◌, ◌∙◌, ap, arith, rules, suc, ℤ, pos, ◌-ℤ◌, to_z, of_z, w16}
use Rattle.state_memo.proofs.{CodePoints.even-is, Prelude.ints, Prelude.plain_items_from}
use Rattle.state_memo.proofs.plain.even_run.Goals as goal

pub returns : goal.returns
returns c cs count ends =
    let last : to_z w16 (of_z w16 c.args.end) ≡ c.args.end = search rules in
    let more : suc c.in_ok-more.more ≡ c.args.count = search rules in
    let width : pos c.in_ok-width.width ≡ c.args.end -ℤ c.args.from = search rules in
    even-is c.args.stride c.one.result c.args.output c.one.ensures c.args.end (to_z w16 (of_z w16 c.args.end)) c.in_ok-step.step c.in_ok-more.more cs
    (c.in_ok-step.ensures cs count (omega (arith, ints, width, ends))) last (more ∙ count)
    ∙ ap (λ (z : ℤ). plain_items_from c.args.stride z c.args.output cs) (omega (arith, ints, ends))
