use Rattle.std.proofs.Common.{◌-◌, rules, sym, ap, ◌∙◌, arith}
use Rattle.sum_tree.proofs.Edits.{replaces, edited_left, edited_right, edited_first, edited_middle, edited_last, summable_left, summable_right}
use Rattle.sum_tree.proofs.{Edits.summable_first, Edits.summable_middle, Edits.summable_last, Totals.summable_as}
use Rattle.sum_tree.proofs.node.Child.+replace.Goals as goal

pub replace-x-requires : goal.replace-x-requires
replace-x-requires g t c κs within =
    let fit = summable_left (replaces c.args.item) c.in-Two.ensures.opened g.met.S.Summary.laws g.T.Summed.sum_of g.met.S.Summary.fits_left
    c.args.i (omega arith) c.requires.summable in
    search rules

pub close-requires-then-i-count-clause-summable : goal.close-requires-then-i-count-clause-summable
close-requires-then-i-count-clause-summable g t c =
    summable_as (edited_left (replaces c.args.item) c.in-Two.ensures.opened c.args.i c.replace-x.ensures.items (omega arith)) c.requires.summable

pub returns-then-i-count-clause-items : goal.returns-then-i-count-clause-items
returns-then-i-count-clause-items g t c = ap (λ r. r.items) c.close-then-i-count.ensures.row
    ∙ sym (edited_left (replaces c.args.item) c.in-Two.ensures.opened c.args.i c.replace-x.ensures.items (omega arith))

pub replace-x-requires-else-i-count : goal.replace-x-requires-else-i-count
replace-x-requires-else-i-count g t c κs within =
    let fit = summable_right (replaces c.args.item) c.in-Two.ensures.opened g.met.S.Summary.laws g.T.Summed.sum_of g.met.S.Summary.fits_right
    c.args.i (c.args.i - c.count-else-i-count.result) (omega arith) c.requires.summable in
    search rules

pub close-requires-else-i-count-clause-summable : goal.close-requires-else-i-count-clause-summable
close-requires-else-i-count-clause-summable g t c =
    summable_as (edited_right (replaces c.args.item) c.in-Two.ensures.opened c.args.i (c.args.i - c.count-else-i-count.result)
    c.replace-x-else-i-count.ensures.items (omega arith)) c.requires.summable

pub returns-else-i-count-clause-items : goal.returns-else-i-count-clause-items
returns-else-i-count-clause-items g t c = ap (λ r. r.items) c.close-else-i-count.ensures.row
    ∙ sym (edited_right (replaces c.args.item) c.in-Two.ensures.opened c.args.i (c.args.i - c.count-else-i-count.result)
    c.replace-x-else-i-count.ensures.items (omega arith))

pub replace-x-requires-then-i-count-2 : goal.replace-x-requires-then-i-count-2
replace-x-requires-then-i-count-2 g t c κs within =
    let fit = summable_first (replaces c.args.item) c.in-Three.ensures.opened g.met.S.Summary.laws g.T.Summed.sum_of g.met.S.Summary.fits_left
    c.args.i (omega arith) c.requires.summable in
    search rules

pub close-requires-then-i-count-2-clause-summable : goal.close-requires-then-i-count-2-clause-summable
close-requires-then-i-count-2-clause-summable g t c =
    summable_as (edited_first (replaces c.args.item) c.in-Three.ensures.opened c.args.i c.replace-x-then-i-count-2.ensures.items (omega arith))
    c.requires.summable

pub returns-then-i-count-2-clause-items : goal.returns-then-i-count-2-clause-items
returns-then-i-count-2-clause-items g t c = ap (λ r. r.items) c.close-then-i-count-2.ensures.row
    ∙ sym (edited_first (replaces c.args.item) c.in-Three.ensures.opened c.args.i c.replace-x-then-i-count-2.ensures.items (omega arith))

pub replace-x-requires-then-j-count : goal.replace-x-requires-then-j-count
replace-x-requires-then-j-count g t c κs within =
    let fit = summable_middle (replaces c.args.item) c.in-Three.ensures.opened g.met.S.Summary.laws g.T.Summed.sum_of g.met.S.Summary.fits_left
    g.met.S.Summary.fits_right c.args.i (c.args.i - c.count-in-Three-2.result) (omega arith) (omega arith) c.requires.summable in
    search rules

pub close-requires-then-j-count-clause-summable : goal.close-requires-then-j-count-clause-summable
close-requires-then-j-count-clause-summable g t c =
    summable_as (edited_middle (replaces c.args.item) c.in-Three.ensures.opened c.args.i (c.args.i - c.count-in-Three-2.result)
    c.replace-x-then-j-count.ensures.items (omega arith) (omega arith)) c.requires.summable

pub returns-then-j-count-clause-items : goal.returns-then-j-count-clause-items
returns-then-j-count-clause-items g t c = ap (λ r. r.items) c.close-then-j-count.ensures.row
    ∙ sym (edited_middle (replaces c.args.item) c.in-Three.ensures.opened c.args.i (c.args.i - c.count-in-Three-2.result)
    c.replace-x-then-j-count.ensures.items (omega arith) (omega arith))

pub replace-x-requires-else-j-count : goal.replace-x-requires-else-j-count
replace-x-requires-else-j-count g t c κs within =
    let fit = summable_last (replaces c.args.item) c.in-Three.ensures.opened g.met.S.Summary.laws g.T.Summed.sum_of g.met.S.Summary.fits_right
    c.args.i (c.args.i - c.count-in-Three-2.result) (c.args.i - c.count-in-Three-2.result - c.count-else-j-count.result) (omega arith)
    (omega arith) c.requires.summable in
    search rules

pub close-requires-else-j-count-clause-summable : goal.close-requires-else-j-count-clause-summable
close-requires-else-j-count-clause-summable g t c =
    summable_as (edited_last (replaces c.args.item) c.in-Three.ensures.opened c.args.i (c.args.i - c.count-in-Three-2.result)
    (c.args.i - c.count-in-Three-2.result - c.count-else-j-count.result) c.replace-x-else-j-count.ensures.items (omega arith) (omega arith))
    c.requires.summable

pub returns-else-j-count-clause-items : goal.returns-else-j-count-clause-items
returns-else-j-count-clause-items g t c = ap (λ r. r.items) c.close-else-j-count.ensures.row
    ∙ sym (edited_last (replaces c.args.item) c.in-Three.ensures.opened c.args.i (c.args.i - c.count-in-Three-2.result)
    (c.args.i - c.count-in-Three-2.result - c.count-else-j-count.result) c.replace-x-else-j-count.ensures.items (omega arith) (omega arith))
