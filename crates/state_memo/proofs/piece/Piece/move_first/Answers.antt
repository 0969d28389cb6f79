use Rattle.std.proofs.Common.{◌≡◌, sym, ap, ◌∙◌, length, is_some, slice_get, Some, map, List, ◌∷◌, arith}
use Rattle.std.proofs.lemmas.List.Edits.{length-remove}
use Rattle.state_memo.{specs.Slots.filled, proofs.Prelude.remove, proofs.Prelude.Known, proofs.Prelude.Memo}
use Rattle.state_memo.proofs.Filled.{known-at, none-free, places-of, seen-with, filled-by, known-by, few-by, within-by, removed-by}
use Rattle.state_memo.proofs.Places.{some-at, entered-at, entered-absent}
use Rattle.state_memo.proofs.piece.Piece.move_first.Goals.{In-Known, In-Free, After-put_first}
use Rattle.state_memo.proofs.piece.Piece.move_first.Goals as goal

removed : (c : In-Known) → c.remove.new.self.items ≡ map filled (remove c.args.self.now.known c.in-Some.place)
removed c = c.remove.ensures.items ∙ removed-by _ _ (places-of _ _ _ c.self.view_is c.self.invariant.2) c.in-Some.place

pub invariant_of-self : goal.invariant_of-self
invariant_of-self c =
    (omega (arith, c.remove.ensures.len, c.self.invariant.0), omega (arith, c.remove.ensures.capacity, c.self.invariant.1), filled-by _ _ (removed c))

pub put_first-requires : goal.put_first-requires
put_first-requires c =
    let ks = c.args.self.now.known in
    let here = places-of _ _ _ c.self.view_is c.self.invariant.2 in
    let others = known-by _ _ (c.remove.ensures.items ∙ removed-by _ _ here c.in-Some.place) in
    let fewer = length-remove ks c.in-Some.place c.in-Some.ensures.found.within in
    omega (arith, ap (λ (rest : List Known). length rest) others, fewer, few-by _ _ here c.self.invariant.0)

found-at : (c : After-put_first) → slice_get c.args.self.now.known c.in-Some.place ≡ Some (record { entry = c.in-Known.field-0; outcome = c.in-Known.outcome })
found-at c =
    let here = places-of _ _ _ c.self.view_is c.self.invariant.2 in
    known-at _ _ here c.in-Some.place _ (within-by _ _ here _ c.in-Some.ensures.found.within) c.remove.ensures.value _ _ c.in-Known.is

pub returns-in-Known-clause-found : goal.returns-in-Known-clause-found
returns-in-Known-clause-found c = some-at c.args.self.now.known c.args.state c.in-Some.place _ c.in-Some.ensures.found (found-at c)

pub returns-in-Known-clause-moved : goal.returns-in-Known-clause-moved
returns-in-Known-clause-moved c =
    let ks = c.args.self.now.known in
    let others = c.remove.ensures.items ∙ removed-by _ _ (places-of _ _ _ c.self.view_is c.self.invariant.2) c.in-Some.place in
    c.put_first.ensures
    ∙ ap (λ (m : Memo). record { bytes = m.bytes; known = record { entry = c.args.state; outcome = c.in-Known.outcome } ∷ m.known })
    (seen-with _ c.self.inside.known.items _ c.self.view_is _ _ others)
    ∙ ap (λ (moved : List Known). record { bytes = c.args.self.now.bytes; known = moved })
    (entered-at ks c.args.state c.in-Some.place _ c.in-Some.ensures.found (found-at c))

never : (c : In-Free) → ⊥
never c =
    let here = places-of _ _ _ c.self.view_is c.self.invariant.2 in
    none-free _ _ here c.in-Some.place _ (within-by _ _ here _ c.in-Some.ensures.found.within) c.remove.ensures.value c.in-Free.is

pub returns-in-Free-clause-found : goal.returns-in-Free-clause-found
returns-in-Free-clause-found c = absurd (never c)

pub returns-in-Free-clause-moved : goal.returns-in-Free-clause-moved
returns-in-Free-clause-moved c = absurd (never c)

pub returns-in_default-clause-found : goal.returns-in_default-clause-found
returns-in_default-clause-found c = sym (ap is_some c.in_default.ensures.none)

pub returns-in_default-clause-moved : goal.returns-in_default-clause-moved
returns-in_default-clause-moved c =
    ap (λ (ks : List Known). record { bytes = c.args.self.now.bytes; known = ks })
    (entered-absent c.args.self.now.known c.args.state c.in_default.ensures.none)
