use Rattle.std.proofs.Common.{ap, ◌∙◌, List, ℕ, arith, refl}
use Rattle.state_memo.{specs.Sums.sum_of, proofs.Gathered.finished}
use Rattle.state_memo.proofs.gathering.summed.Goals as goal

pub invariant_of-body : goal.invariant_of-body
invariant_of-body c =
    let sum_is = rw c.in_ok-sum.ensures.ok_part at c.sum_of.ensures in
    let f = finished c.args.bytes (record { text = c.args.text; items = c.args.items }) c.args.text c.args.items c.in_ok-sum.sum c.requires.done refl
    refl (sum_is ∙ ap (λ (cs : List ℕ). sum_of c.args.bytes cs c.args.items) c.as_str.ensures) in
    let fits = rw c.in_ok-sum.ensures.ok_part at c.sum_of.type_inv in
    record { summed = f.summed; bounded = f.bounded; held = omega (arith, c.saturating_add-memory.ensures, fits) }
