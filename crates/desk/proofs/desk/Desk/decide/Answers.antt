use Rattle.std.proofs.Common.{refl}
use Rattle.desk.proofs.desk.Desk.decide.Goals as goal

pub returns-in-Open : goal.returns-in-Open
returns-in-Open c = rw c.in-Open.is c.open.ensures

pub returns-in-Close : goal.returns-in-Close
returns-in-Close c =
    rw (c.in-Close.is, ← c.self.view_is) (record { step = c.close.ensures.step; indexes = c.close.ensures.indexes; labels = refl; turn = refl })

pub returns-in-Splice : goal.returns-in-Splice
returns-in-Splice c = rw c.in-Splice.is c.splice.ensures

pub returns-in-Change : goal.returns-in-Change
returns-in-Change c = rw c.in-Change.is c.change.ensures

pub returns-in-Changes : goal.returns-in-Changes
returns-in-Changes c = rw c.in-Changes.is c.changes.ensures

pub returns-in-Replace : goal.returns-in-Replace
returns-in-Replace c = rw c.in-Replace.is c.replace.ensures
