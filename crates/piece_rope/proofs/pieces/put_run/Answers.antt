use Rattle.piece_rope.proofs.Prelude.{◌-◌, drop, length, with_run}
use Rattle.piece_rope.proofs.Joining.{can-fit}
use Rattle.piece_rope.proofs.pieces.put_run.Goals as goal

pub refill-requires-clause-fit : goal.refill-requires-clause-fit
refill-requires-clause-fit c =
    let items = with_run c.args.pieces.now.items c.args.from c.args.to (drop (length c.args.run.now.items - (c.args.to - c.args.from)) c.args.run.now.items) in
    c.law_sums_of_lists.ensures.runs items (can-fit items c.requires.join)
