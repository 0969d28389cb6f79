use Rattle.std.proofs.Common.{◌∙◌, ◌++◌, ap, arith, rules, ℕ, pos, ◌<ℤ◌, List, drop, append-nil, to_z, of_z, w16}
use Rattle.state_memo.specs.{Plain.stride_of, Runs.items_of_last}
use Rattle.state_memo.proofs.{Prelude.ints, Prelude.items_of_run, Prelude.length-drop, Prelude.plain_items_from, Prelude.run_width, PlainTexts.none-behind}
use Rattle.state_memo.proofs.plain_items.PlainItems.of.Goals as goal

pub invariant_of-t-9 : goal.invariant_of-t-9
invariant_of-t-9 c =
    let t = c.args.tail in
    let text = c.args.text in
    let run = c.in-Some.ensures (drop t.before text) (omega (arith, c.requires.scalars, length-drop t.before text)) c.requires.tail.end in
    let none = none-behind (items_of_last c.args.front) (items_of_run c.in-Some.run') (stride_of t.stride) t.from t.output text t.before c.requires.before
    c.requires.tail.within run in
    let width = ap (run_width c.length-stride.result) none in
    let fits : to_z w16 (of_z w16 t.end) <ℤ pos 32768 = search rules in
    omega (arith, ints, width, fits)

pub returns-in-Some : goal.returns-in-Some
returns-in-Some c =
    let t = c.args.tail in
    let text = c.args.text in
    let run = c.in-Some.ensures (drop t.before text) (omega (arith, c.requires.scalars, length-drop t.before text)) c.requires.tail.end in
    let none = none-behind (items_of_last c.args.front) (items_of_run c.in-Some.run') (stride_of t.stride) t.from t.output text t.before c.requires.before
    c.requires.tail.within run in
    ap (λ (cs : List ℕ). items_of_run c.in-Some.run' ++ plain_items_from c.length-stride.result (to_z w16 (of_z w16 t.end)) t.output cs) none
    ∙ append-nil (items_of_run c.in-Some.run') ∙ run
