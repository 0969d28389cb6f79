use Rattle.desk.proofs.Prelude.{ap, ◌∙◌, sym, rules, edited}
use Rattle.desk.proofs.{Edits.nowhere, Edits.edited_here, Names.edited_still, Names.opened_found}
use Rattle.desk.proofs.documents.Documents.edit.Goals as goal

pub returns-in_default-clause-step : goal.returns-in_default-clause-step
returns-in_default-clause-step g c = rw (← c.self.view_is)
    (nowhere c.self.inside.named c.get_mut.follows.lender-at-none c.args.name.now _ c.in_default.ensures.value
    (ap (λ m. m.entries) c.get_mut.follows.holds-at-none))

pub invariant_of-self-2 : goal.invariant_of-self-2
invariant_of-self-2 g c =
    let found = opened_found _ c.args.name.now c.self.inside.named.entries c.in-Some.found.now c.self.invariant.0 c.in-Some.ensures.value in
    rw (c.get_mut.follows.holds c.edit.new.self).0
    (edited_still _ c.self.inside.named.entries _ c.edit.new.self c.self.invariant
    (record {
      idle = record { files = c.edit.ensures.indexes ∙ found.idle.files; idle = c.edit.ensures.idle };
      setting = c.edit.ensures.setting.0 ∙ found.setting ∙ sym c.edit.ensures.setting.1;
      given = rw c.edit.ensures.setting.1 found.given;
      revision = c.edit.ensures.revision found.revision;
    }))

pub returns-clause-step : goal.returns-clause-step
returns-clause-step g c =
    let holds = c.get_mut.follows.holds c.edit.new.self in rw (← c.self.view_is)
    (edited_here c.self.inside.named (c.get_mut.follows.lender c.edit.new.self) c.args.name.now c.self.inside.indexes.now
    (λ indexes. edited indexes (g.E.Edit.named c.args.edit.now) (g.E.Edit.applied c.args.edit.now) (g.E.Edit.leaves c.args.edit.now) g.E.Edit.answer)
    c.in-Some.found.now c.edit.new.self c.in-Some.ensures.value c.self.invariant.0 c.edit.result c.edit.ensures.step
    c.edit.ensures.accepted c.edit.ensures.err holds.0 (holds.3 (search rules)))
