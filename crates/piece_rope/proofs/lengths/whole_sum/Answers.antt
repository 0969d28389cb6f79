use Rattle.piece_rope.proofs.Joining.{whole-fits}
use Rattle.piece_rope.proofs.lengths.whole_sum.Goals as goal

pub join-requires : goal.join-requires
join-requires c = rw (c.total.ensures, c.sum.ensures) (whole-fits c.args.tail.now c.requires.few c.requires.tail)
