use Rattle.position_map.proofs.Selecting.{selected_cut, selected_inside, selected_past, front_at}
use Rattle.position_map.proofs.cuts.along_utf16.Goals as goal

pub split_at-requires : goal.split_at-requires
split_at-requires c = (selected_cut _ _ _ c.utf8.text c.in-At.ensures).3.boundary

pub returns-in-At : goal.returns-in-At
returns-in-At c =
    let w = selected_cut _ _ _ c.utf8.text c.in-At.ensures in
    front_at _ _ _ _ _ _ w.1 w.2 w.3 c.split_at.ensures.front

pub returns-in-Inside : goal.returns-in-Inside
returns-in-Inside c = selected_inside _ _ c.in-Inside.ensures

pub returns-in-Past : goal.returns-in-Past
returns-in-Past c = selected_past _ _ c.in-Past.ensures
