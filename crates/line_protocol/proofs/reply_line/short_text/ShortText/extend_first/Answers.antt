use Rattle.std.proofs.Common.{◌-◌, ◌+◌, ◌++◌, ℕ, List, length, take, arith, ap, ◌∙◌}
use Rattle.line_protocol.proofs.Decimals.{filled-first}
use Rattle.line_protocol.proofs.reply_line.short_text.ShortText.extend_first.Goals as goal

pub returns : goal.returns
returns g c =
    let text = c.self.inside in
    let copied = c.overwrite.ensures in
    filled-first text.len (text.len + g.row.N - text.len) c.args.len text.bytes c.overwrite.new.there
    (omega (arith, ap length copied, c.told-bytes, c.requires.part)) (omega (arith, c.self.invariant, c.self.told))
    ∙ ap (λ (t : List ℕ). take text.len text.bytes ++ take c.args.len t) copied
    ∙ ap (λ (t : List ℕ). t ++ take c.args.len c.args.bytes.now) c.self.view_is
