use Rattle.piece_rope.proofs.Prelude.{◌≡◌, sym, ap, ◌∙◌, rules, Ended, List, ends_at, last_at}
use Rattle.piece_rope.proofs.Erring.{items-last, no-items}
use Rattle.piece_rope.proofs.errors.end_behind.Goals as goal

pub returns-in-Some : goal.returns-in-Some
returns-in-Some c =
    let item = c.in-Some.item in
    let to_is : c.saturating_add_signed.result ≡ ends_at c.args.base item.end = search rules in
    to_is ∙ sym (items-last c.args.base c.args.from c.args.outcome.now.items item (sym (rw c.items.ensures at c.in-Some.ensures)))

pub returns-in-None : goal.returns-in-None
returns-in-None c =
    sym (ap (λ (es : List Ended). last_at c.args.base c.args.from es) (no-items c.args.outcome.now.items (sym (rw c.items.ensures at c.in-None.ensures))))
