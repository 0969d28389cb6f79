use Rattle.std.proofs.Common.{ℕ, List, None, Some, ap, ◌∙◌}
use Rattle.std.specs.Map.Iter.{deref_pair}
use Rattle.desk.proofs.HeldAt.{could_be_adopted, held_is, nth_is, text_named, value_at}
use Rattle.desk.specs.OpenDocuments.{IsAdmitted, entry_of}
use Rattle.desk.proofs.documents.Documents.held.Goals as goal

pub returns-in-Some-clause-held : goal.returns-in-Some-clause-held
returns-in-Some-clause-held c =
    rw (← c.self.view_is) (ap Some (c.new.ensures ∙ ap (λ (n : List ℕ). (n, entry_of c.in-Some.opened.now)) c.as_str.ensures.value)
    ∙ held_is deref_pair c.self.inside.named.entries c.iter.result c.nth.new.self c.args.number c.iter.ensures.rest (Some (c.in-Some.name, c.in-Some.opened))
    c.in-Some.ensures.ran c.iter.ensures.ordered)

pub returns-in-Some-clause-name : goal.returns-in-Some-clause-name
returns-in-Some-clause-name c = rw (c.new.ensures, c.as_str.ensures.value) (text_named c.in-Some.name.now)

pub returns-in-Some-clause-adoptable : goal.returns-in-Some-clause-adoptable
returns-in-Some-clause-adoptable c =
    let es = c.self.inside.named.entries in
    let found = nth_is deref_pair es c.iter.result c.nth.new.self c.args.number c.iter.ensures.rest (Some (c.in-Some.name, c.in-Some.opened))
    c.in-Some.ensures.ran in
    let is = value_at (IsAdmitted c.self.inside.indexes.now) es c.args.number (c.in-Some.name.now, c.in-Some.opened.now) c.self.invariant.0 found in
    rw (← c.self.view_is, c.new.ensures) (could_be_adopted c.self.inside.indexes.now c.in-Some.opened.now is c.law_bounds.ensures.bytes)

pub returns-in-None-clause-held : goal.returns-in-None-clause-held
returns-in-None-clause-held c =
    rw (← c.self.view_is)
    (held_is deref_pair c.self.inside.named.entries c.iter.result c.nth.new.self c.args.number c.iter.ensures.rest None
    c.in-None.ensures.ran c.iter.ensures.ordered)
