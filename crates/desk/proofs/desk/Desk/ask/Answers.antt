use Rattle.std.proofs.Common.{refl}
use Rattle.desk.proofs.desk.Desk.ask.Goals as goal

pub returns : goal.returns
returns g c = rw (← c.self.view_is) (record { step = c.ask.ensures; indexes = refl; labels = refl; turn = refl })
