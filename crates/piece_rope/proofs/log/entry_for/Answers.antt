use Rattle.std.proofs.Common.{◌≡◌, rules, ap, ◌∙◌, ◌+◌, ◌-◌, ℕ, take, drop, length}
use Rattle.piece_rope.proofs.Logging.{back-edited, within-edited}
use Rattle.piece_rope.proofs.log.entry_for.Goals as goal

pub returns : goal.returns
returns c =
    let ps = c.args.pieces.now.items in
    let edit = c.args.edit.now in
    let put_is : c.len-2.result + c.len-3.result ≡ length edit.fresh.items + length edit.renewals.items = search rules in
    let count : c.len.result ≡ length edit.renewals.items = search rules in
    let taken : c.in_ok-taken.taken.items ≡ take ((edit.last + length edit.renewals.items) - edit.first) (drop edit.first ps) =
    c.in_ok-taken.ensures ∙ ap (λ (n : ℕ). take ((edit.last + n) - edit.first) (drop edit.first ps)) count in
    record {
      within = within-edited ps edit c.requires.order c.requires.within c.requires.kept (c.len-2.result + c.len-3.result) put_is;
      pieces = back-edited ps edit c.requires.order c.requires.within c.requires.kept (c.len-2.result + c.len-3.result) put_is c.in_ok-taken.taken.items taken;
      tail_is = c.in_ok-tail.ensures.cases;
    }
