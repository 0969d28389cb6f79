use Rattle.index_loader.proofs.FormLemmas.{wide}
use Rattle.index_loader.proofs.form.Utf8Form.is_wide.Goals as goal

pub returns : goal.returns
returns c = rw (← c.self.view_is) (wide c.self.inside.number c.self.invariant)
