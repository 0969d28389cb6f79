use Rattle.std.proofs.Common.{◌∙◌}
use Rattle.state_memo.proofs.{Filled.known-at, Filled.none-free, Filled.places-of, Filled.within-by, Places.outcome-at}
use Rattle.state_memo.proofs.piece.Piece.peek.Goals as goal

pub returns-in-Known : goal.returns-in-Known
returns-in-Known c =
    let found = c.in_ok-place.ensures.found in
    let here = c.as_slice.ensures ∙ places-of _ _ _ c.self.view_is c.self.invariant.2 in
    let at = known-at _ _ here c.in_ok-place.place _ (within-by _ _ here _ found.within) c.index-as_slice-place.is _ _ c.in-Known.is in
    outcome-at c.args.self.now.known c.args.state c.in_ok-place.place _ found at

pub returns-in-Free : goal.returns-in-Free
returns-in-Free c =
    let here = c.as_slice.ensures ∙ places-of _ _ _ c.self.view_is c.self.invariant.2 in
    let within = within-by _ _ here c.in_ok-place.place c.in_ok-place.ensures.found.within in
    absurd (none-free _ _ here c.in_ok-place.place _ within c.index-as_slice-place.is c.in-Free.is)
