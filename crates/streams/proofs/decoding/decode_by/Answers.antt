use Rattle.std.proofs.Common.{length, ◌∙◌}
use Rattle.decoder_core.specs.Queue.{feed}
use Rattle.streams.proofs.{Lifting.fed-items, Lifting.fed-state, Lifting.name_by, Lifting.named-lifted, Texts.gathered-shown}
use Rattle.streams.proofs.decoding.decode_by.Goals as goal

pub returns-clause-state : goal.returns-clause-state
returns-clause-state g c = λ entry named.
    let among = c.requires.among in
    fed-state among (c.law_among.ensures.feeds (name_by among) (named-lifted among)) c.args.state c.in_ok-after.after entry c.name.result
    c.args.part.bytes.now named c.name.ensures c.in_ok-after.ensures.state

pub returns-clause-items : goal.returns-clause-items
returns-clause-items g c = λ entry named.
    let among = c.requires.among in
    let bytes = c.args.part.bytes.now in
    fed-items among (c.law_among.ensures.feeds (name_by among) (named-lifted among)) c.args.state entry bytes c.args.text.now _ named
    (c.in_ok-after.ensures.items
    ∙ gathered-shown (length bytes) c.args.text.now _ (feed (g.D.Decoder.table c.args.own.now) c.args.state bytes).items
    (c.law_one_run.ensures.shown c.args.state bytes))
