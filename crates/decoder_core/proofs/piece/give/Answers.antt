use Rattle.std.proofs.{Common.◌∙◌, lemmas.Result.err_from_is_err_and}
use Rattle.decoder_core.proofs.Showing.{shown-prefix}
use Rattle.decoder_core.proofs.piece.give.Goals as goal

pub returns-in_err-item-clause-err : goal.returns-in_err-item-clause-err
returns-in_err-item-clause-err g c =
    let refused = err_from_is_err_and c.from_residual.result c.from_residual.ensures.1 in
    rw refused.1
    (shown-prefix g.K.Sink.taken (g.K.Sink.seen c.args.sink.now) (g.K.Sink.seen c.item.new.self) c.args.read c.args.after c.args.items.now c.items.ended-index
    (c.in_err-item.ensures.err ∙ c.items.invariant))
