use Rattle.std.proofs.Common.{◌∙◌}
use Rattle.std.proofs.lemmas.Option.{IfSome_then}
use Rattle.codec.proofs.{Prelude.decoder_in, Choosing.chosen, Choosing.decodes, Choosing.behind}
use Rattle.codec.proofs.decoder.AnyDecoder.under.Goals as goal

pub returns-clause-variant : goal.returns-clause-variant
returns-clause-variant c = rw c.choose.ensures (chosen c.args.indexes.now c.args.setting).0

pub returns-clause-setting : goal.returns-clause-setting
returns-clause-setting c =
    rw c.choose.ensures (IfSome_then (decoder_in c.args.indexes.now c.args.setting) (chosen c.args.indexes.now c.args.setting).1 (λ d does. does.setting_is))

pub returns-clause-decode : goal.returns-clause-decode
returns-clause-decode c =
    rw c.choose.ensures (IfSome_then (decoder_in c.args.indexes.now c.args.setting) (chosen c.args.indexes.now c.args.setting).1
    (λ d does bytes. rw (c.law_standing.ensures.run d bytes) (decodes c.args.indexes.now c.args.setting d does bytes)))

pub returns-clause-behind : goal.returns-clause-behind
returns-clause-behind c =
    rw c.choose.ensures (IfSome_then (decoder_in c.args.indexes.now c.args.setting) (chosen c.args.indexes.now c.args.setting).1
    (λ d does bytes. c.law_standing.ensures.state d bytes ∙ behind c.args.indexes.now c.args.setting d does bytes))
