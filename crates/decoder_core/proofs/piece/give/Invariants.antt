use Rattle.std.proofs.Common.{◌≡◌, take, fold}
use Rattle.decoder_core.specs.Shown.{shown_at}
use Rattle.decoder_core.proofs.piece.give.Given as goal

abbrev pub invariant-items : goal.invariant-items
invariant-items g l = g.K.Sink.seen l.sink ≡ fold g.K.Sink.taken (g.K.Sink.seen l.fn.sink) (shown_at l.read l.after (take l.ended-index l.items))
