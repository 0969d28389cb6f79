use Rattle.std.proofs.Common.{refl}
use Rattle.desk.proofs.desk.Desk.change.Goals as goal

pub returns : goal.returns
returns c = rw (← c.self.view_is) (record { step = c.edit.ensures.step; indexes = c.edit.ensures.indexes; labels = refl; turn = refl })
