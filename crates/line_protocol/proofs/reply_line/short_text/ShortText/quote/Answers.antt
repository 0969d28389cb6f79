use Rattle.line_protocol.proofs.PlainText.{quoted-after}
use Rattle.line_protocol.proofs.reply_line.short_text.ShortText.quote.Goals as goal

pub returns-clause-text : goal.returns-clause-text
returns-clause-text c = rw (c.push-2.ensures, c.extend.ensures, c.as_bytes.ensures.value, c.push.ensures)
    (quoted-after c.args.self.now c.args.text.now c.requires.plain)
