use Rattle.piece_rope.proofs.Counting.{found-place}
use Rattle.piece_rope.proofs.window.seek.Goals as goal

pub returns : goal.returns
returns c = found-place c.requires c.seek-place.ensures.place
