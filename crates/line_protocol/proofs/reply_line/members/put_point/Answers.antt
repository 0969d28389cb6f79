use Rattle.std.proofs.Common.{codes}
use Rattle.serde_json.specs.Written.{compact_text}
use Rattle.line_protocol.{proofs.Prelude.quoted, specs.Values.whole, proofs.Listing.point-parts}
use Rattle.line_protocol.proofs.reply_line.members.put_point.Goals as goal

pub returns-clause-text : goal.returns-clause-text
returns-clause-text c =
    let position = c.args.position in
    rw (c.push-2.ensures, c.put_number-2.ensures.text, c.put_key-2.ensures.text, c.put_number.ensures.text, c.put_key.ensures.text, c.push.ensures)
    (point-parts c.args.line.now (quoted (codes "character")) (compact_text (whole position.character)) (quoted (codes "line")) (compact_text (whole position.line)))
