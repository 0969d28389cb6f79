use Rattle.index_loader.proofs.FormLemmas.{some}
use Rattle.index_loader.proofs.form.Utf8Form.is_some.Goals as goal

pub returns : goal.returns
returns c = rw (← c.self.view_is) (some c.self.inside.number c.self.invariant)
