use Rattle.std.proofs.Common.{refl}
use Rattle.desk.proofs.desk.Desk.splice.Goals as goal

pub returns : goal.returns
returns c =
    let step = rw c.as_slice.ensures.value at c.edit.ensures.step in
    rw (← c.self.view_is) (record { step = rw c.in_ok-ins.ensures step; indexes = c.edit.ensures.indexes; labels = refl; turn = refl })
