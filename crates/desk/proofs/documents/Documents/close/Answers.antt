use Rattle.desk.proofs.{Prelude.refl, Prelude.All-map-remove_entry, Prelude.IsAdmitted, Prelude.arith, Close.closed_answers, Edits.nowhere}
use Rattle.desk.proofs.documents.Documents.close.Goals as goal

pub returns-in_default-clause-step : goal.returns-in_default-clause-step
returns-in_default-clause-step c = rw (← c.self.view_is)
    (nowhere c.self.inside.named c.remove.new.self c.args.name.now _ c.in_default.ensures.value c.in_default.ensures.unchanged)

pub invariant_of-self-2 : goal.invariant_of-self-2
invariant_of-self-2 c = (
  rw c.remove.ensures.entries (All-map-remove_entry _ (λ e. e.1) (IsAdmitted _) c.self.inside.named.entries c.self.invariant.0),
  omega (arith, c.remove.ensures.len, c.self.invariant.1),
)

pub returns-clause-step : goal.returns-clause-step
returns-clause-step c = rw (← c.self.view_is)
    (closed_answers c.self.inside.named c.remove.new.self c.args.name.now c.in-Some.closed _ c.in-Some.ensures.value c.in-Some.ensures.updates refl)
