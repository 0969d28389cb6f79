use Rattle.piece_rope.proofs.Prelude.{ap, ◌∙◌, any, feed, Contents, Memo, installed, outcome_of}
use Rattle.piece_rope.proofs.{Chaining.laws_of, Remembering.own-made}
use Rattle.piece_rope.proofs.entered.Entered.new.Goals as goal

pub returns-clause-own : goal.returns-clause-own
returns-clause-own c =
    own-made (laws_of _ c.requires).laws c.args.bytes.now c.args.entry c.in_ok-outcome.outcome
    (c.in_ok-outcome.ensures.outcome ∙ ap (λ (m : Memo). outcome_of c.args.decoder.now c.args.entry m.bytes) c.in_ok-piece.ensures)
    (c.in_ok-piece-2.ensures.ok ∙ c.install.ensures
    ∙ ap (λ (m : Memo). record { bytes = m.bytes; known = installed m.known c.args.entry c.in_ok-outcome.outcome }) c.in_ok-piece.ensures)

pub returns-clause-exit : goal.returns-clause-exit
returns-clause-exit c =
    c.exit-exit.ensures ∙ ap (λ (o : Contents). o.exit) c.in_ok-outcome.ensures.outcome
    ∙ (laws_of c.args.decoder.now c.requires).laws.exit c.args.entry _
    ∙ ap (λ (m : Memo). (feed (any c.args.decoder.now) c.args.entry m.bytes).state) c.in_ok-piece.ensures
