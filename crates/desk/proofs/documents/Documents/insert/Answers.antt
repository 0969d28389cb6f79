use Rattle.desk.proofs.Prelude.{string_bytes, string_cmp, sym, ap, ◌∙◌, subst, All-values-insert_entry, Files, Names, IsAdmitted, Shelf}
use Rattle.std.specs.FinMap as finite
use Rattle.desk.proofs.Names.{len_named, names_updated, one_more_still}
use Rattle.desk.proofs.documents.Documents.insert.Goals as goal

pub invariant_of-self-2 : goal.invariant_of-self-2
invariant_of-self-2 c =
    let same : IsAdmitted c.self.inside.indexes.now c.args.opened =
    subst (λ (f : Files). IsAdmitted f c.args.opened) (sym (ap (λ (s : Shelf). s.indexes) c.self.view_is)) c.requires.admitted in
    let count = len_named c.self.inside.named.entries c.insert.ensures.was_ordered in (
      rw c.in-Ok.ensures.entries
          (All-values-insert_entry string_cmp c.args.name c.args.opened (IsAdmitted _) c.self.inside.named.entries c.self.invariant.0 same),
      one_more_still c.in-Ok.field-0 c.self.inside.named c.insert.new.self _ c.in-Ok.ensures.len
          (sym count ∙ ap (λ (s : Shelf). finite.len s.named) c.self.view_is) c.requires.few,
    )

pub returns-clause-ok : goal.returns-clause-ok
returns-clause-ok c =
    let f : Names → Shelf = λ n. record { indexes = c.self.inside.indexes.now; named = n } in
    rw (← c.self.view_is) (ap f (names_updated (string_bytes c.args.name) c.self.inside.named c.insert.new.self c.args.opened c.in-Ok.ensures.updates))
