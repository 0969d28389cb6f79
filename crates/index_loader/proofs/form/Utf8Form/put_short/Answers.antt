use Rattle.index_loader.proofs.FormLemmas.{form_put, short-bounds}
use Rattle.index_loader.proofs.form.Utf8Form.put_short.Goals as goal

pub returns-clause-put : goal.returns-clause-put
returns-clause-put c =
    let bounds = short-bounds c.self.inside.number c.self.invariant (rw (← c.self.view_is) at c.requires.short) in
    rw (← c.self.view_is)
    (form_put c.self.inside.number c.args.at c.args.text.now c.put_four.new.text c.self.invariant bounds.0 bounds.1 c.put_four.ensures.fronts)
