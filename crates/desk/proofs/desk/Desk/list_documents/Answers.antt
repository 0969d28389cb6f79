use Rattle.std.proofs.Common.{◌≡◌, ◌+◌, suc, ◌∷◌, [], ◌++◌, None, Some, take, arith, ap, sym, ◌∙◌, refl, take_all}
use Rattle.std.specs.FinMap.{entries, len-entries}
use Rattle.lemmas.proofs.Lists.{element, take-next}
use Rattle.desk.specs.Desk.{Office}
use Rattle.desk.proofs.desk.Desk.list_documents.Goals as goal

pub documents-preserved : goal.documents-preserved
documents-preserved c =
    let ds = entries c.args.self.now.documents in
    let on : c.documents.number + 1 ≡ suc c.documents.number = omega arith in
    c.in_ok-push.ensures.items
    ∙ ap (λ l. l ++ c.in-Some.held ∷ []) c.documents.invariant
    ∙ sym (ap (λ n. take n ds) on ∙ take-next ds c.documents.number c.in-Some.held (sym c.in-Some.ensures.held))

-- there is a document of each number below their count
pub unreachable-requires : goal.unreachable-requires
unreachable-requires c =
    let ds = entries c.args.self.now.documents in
    let count = c.len-number-end.ensures.count ∙ len-entries c.args.self.now.documents in
    let there = element ds c.documents.number (omega (arith, count, c.documents-test.true)) in
    let no : None ≡ Some there.0 = c.in_default.ensures.held ∙ there.1 in
    cc

pub returns : goal.returns
returns c =
    let ds = entries c.args.self.now.documents in
    let count = c.len-number-end.ensures.count ∙ len-entries c.args.self.now.documents in
    let all = c.documents.invariant ∙ take_all c.documents.number ds (omega (arith, count, c.documents-test.false)) in
    let turn = ap (λ (o : Office). o.turn) c.self.view_is in
    rw (c.new.ensures, all, turn) refl
