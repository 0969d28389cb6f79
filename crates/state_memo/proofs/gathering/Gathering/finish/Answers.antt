use Rattle.state_memo.proofs.{Prelude.items_under_way, PlainTexts.settled-no-errors}
use Rattle.state_memo.proofs.gathering.Gathering.finish.Goals as goal

pub summed-requires-clause-none : goal.summed-requires-clause-none
summed-requires-clause-none c = λ e.
    let s = c.self.inside in
    settled-no-errors c.in_ok-items.items (items_under_way s.items.closed.items s.items.last) s.tail c.in_ok-text.text c.in_ok-items.ensures
    (c.self.invariant.none e)
