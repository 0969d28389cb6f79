use Rattle.std.specs.Str.{chars}
use Rattle.position_map.proofs.Pointing.{no_mark_left}
use Rattle.position_map.proofs.marks.mark_cut.Goals as goal

pub returns-in-None-clause-place : goal.returns-in-None-clause-place
returns-in-None-clause-place c = no_mark_left _ _ _ _ c.locate.ensures.place c.in-None.ensures

pub returns-in-Some-clause-place : goal.returns-in-Some-clause-place
returns-in-Some-clause-place c =
    record { here = chars c.locate.result.1.now; place = c.locate.ensures.place; cut = c.in-Some.ensures.0; scalars = c.in-Some.ensures.1 }
