use Rattle.std.proofs.Common.{rules, ◌+◌, ◌-◌, ◌*◌, ◌/◌, ◌≤◌, ◌++◌, length, vec_len, ap, ◌∙◌, arith, length-append, append_assoc}
use Rattle.sum_tree.proofs.Totals.{summable_front, summable_back}
use Rattle.sum_tree.proofs.build.+gathered.Goals as goal

pub close-requires-clause-summable : goal.close-requires-clause-summable
close-requires-clause-summable g t c =
    summable_back g.met.S.Summary.laws g.T.Summed.sum_of g.met.S.Summary.fits_right _ _ _ c.take_last.ensures.items c.requires.summable

pub gathered-a-requires : goal.gathered-a-requires
gathered-a-requires g t c κs within =
    let fit = summable_front g.met.S.Summary.laws g.T.Summed.sum_of g.met.S.Summary.fits_left c.args.items.now.items
    c.gathered-b.new.items.items c.gathered-b.result.items c.gathered-b.ensures.items c.requires.summable in
    let thrifty = c.gathered-b.ensures.sound.thrifty in
    let all = ap length c.gathered-b.ensures.items ∙ length-append c.gathered-b.new.items.items c.gathered-b.result.items in
    let enough : c.args.count - c.args.count / 2 ≤ length c.gathered-b.new.items.items = omega arith in
    let room : 2 * (c.args.count - c.args.count / 2) ≤ vec_len c.gathered-b.new.pool + 1 = omega arith in
    search rules

pub close-requires-then-count-width-clause-summable : goal.close-requires-then-count-width-clause-summable
close-requires-then-count-width-clause-summable g t c =
    let a = c.gathered-a.result.items in
    let b = c.gathered-b.result.items in
    let front = c.gathered-a.new.items.items in
    let cut = c.gathered-b.ensures.items ∙ ap (λ l. l ++ b) c.gathered-a.ensures.items ∙ append_assoc front a b in
    summable_back g.met.S.Summary.laws g.T.Summed.sum_of g.met.S.Summary.fits_right c.args.items.now.items front (a ++ b) cut c.requires.summable

pub gathered-b-requires-else-count-width : goal.gathered-b-requires-else-count-width
gathered-b-requires-else-count-width g t c κs within =
    let third = c.args.count / 3 in
    let fit = summable_front g.met.S.Summary.laws g.T.Summed.sum_of g.met.S.Summary.fits_left c.args.items.now.items
    c.gathered-c.new.items.items c.gathered-c.result.items c.gathered-c.ensures.items c.requires.summable in
    let thrifty = c.gathered-c.ensures.sound.thrifty in
    let all = ap length c.gathered-c.ensures.items ∙ length-append c.gathered-c.new.items.items c.gathered-c.result.items in
    let enough : (c.args.count - c.args.count / 3) / 2 ≤ length c.gathered-c.new.items.items = omega arith in
    let room : 2 * ((c.args.count - c.args.count / 3) / 2) ≤ vec_len c.gathered-c.new.pool + 1 = omega arith in
    search rules

pub gathered-a-requires-else-count-width : goal.gathered-a-requires-else-count-width
gathered-a-requires-else-count-width g t c κs within =
    let laws = g.met.S.Summary.laws in
    let sum_of = g.T.Summed.sum_of in
    let left = g.met.S.Summary.fits_left in
    let rest = summable_front laws sum_of left c.args.items.now.items c.gathered-c.new.items.items c.gathered-c.result.items
    c.gathered-c.ensures.items c.requires.summable in
    let fit = summable_front laws sum_of left c.gathered-c.new.items.items c.gathered-b-else-count-width.new.items.items
    c.gathered-b-else-count-width.result.items c.gathered-b-else-count-width.ensures.items rest in
    let thrifty = c.gathered-c.ensures.sound.thrifty in
    let thrifty_too = c.gathered-b-else-count-width.ensures.sound.thrifty in
    let all = ap length c.gathered-c.ensures.items ∙ length-append c.gathered-c.new.items.items c.gathered-c.result.items in
    let most = ap length c.gathered-b-else-count-width.ensures.items
    ∙ length-append c.gathered-b-else-count-width.new.items.items c.gathered-b-else-count-width.result.items in
    let enough : c.args.count - c.args.count / 3 - (c.args.count - c.args.count / 3) / 2 ≤ length c.gathered-b-else-count-width.new.items.items = omega arith in
    let room : 2 * (c.args.count - c.args.count / 3 - (c.args.count - c.args.count / 3) / 2)
    ≤ vec_len c.gathered-b-else-count-width.new.pool + 1 = omega arith in
    search rules

pub close-requires-else-count-width-clause-summable : goal.close-requires-else-count-width-clause-summable
close-requires-else-count-width-clause-summable g t c =
    let a = c.gathered-a-else-count-width.result.items in
    let b = c.gathered-b-else-count-width.result.items in
    let d = c.gathered-c.result.items in
    let front = c.gathered-a-else-count-width.new.items.items in
    let behind = c.gathered-b-else-count-width.ensures.items ∙ ap (λ l. l ++ b) c.gathered-a-else-count-width.ensures.items ∙ append_assoc front a b in
    let cut = c.gathered-c.ensures.items ∙ ap (λ l. l ++ d) behind ∙ append_assoc front (a ++ b) d ∙ ap (λ l. front ++ l) (append_assoc a b d) in
    summable_back g.met.S.Summary.laws g.T.Summed.sum_of g.met.S.Summary.fits_right c.args.items.now.items front (a ++ (b ++ d)) cut c.requires.summable
