use Rattle.std.proofs.Common.{◌≡◌, true, false, rules, ◌∙◌, add-one}
use Rattle.state_memo.specs.declared.slot.Slot.TheVariants.{Free}
use Rattle.state_memo.proofs.{Prelude.same_state, Filled.known-at, Filled.none-free, Filled.places-of, Places.place-at, Places.absent-more}
use Rattle.state_memo.proofs.piece.Piece.place_of.Goals.{in_default-via-in-Free-1, in_default-via-in-Known+else-eq}
use Rattle.state_memo.proofs.piece.Piece.place_of.Goals as goal

pub returns-in-known-clause-found : goal.returns-in-known-clause-found
returns-in-known-clause-found c =
    let same : same_state c.in-Known.entry c.args.state ≡ true = search rules in
    let here = c.as_slice-known.ensures ∙ places-of _ _ _ c.self.view_is c.self.invariant.2 in
    let at = known-at _ _ here c.known.i _ c.known-test.true c.index-known-i.is _ _ c.in-Known.is in
    place-at c.args.self.now.known c.args.state c.known.i _ at c.known.invariant same

pub known-preserved : goal.known-preserved
known-preserved c =
    let here = c.as_slice-known.ensures ∙ places-of _ _ _ c.self.view_is c.self.invariant.2 in
    elim c.in_default.branch [
      | in_default-via-in-Free-1 w ↦
          let free : c.index-known-i.result ≡ Free = search rules in
          absurd (none-free _ _ here c.known.i _ c.known-test.true c.index-known-i.is free)
      | in_default-via-in-Known+else-eq w ↦
          let same : same_state w.in-Known.entry c.args.state ≡ false = search rules in
          let at = known-at _ _ here c.known.i _ c.known-test.true c.index-known-i.is _ _ w.in-Known.is in
          rw (add-one c.known.i) (absent-more c.args.self.now.known c.args.state c.known.i _ at c.known.invariant same)
    ]
