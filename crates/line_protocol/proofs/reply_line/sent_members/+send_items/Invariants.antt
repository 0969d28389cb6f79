use Rattle.std.proofs.Common.{length}
use Rattle.line_protocol.proofs.reply_line.sent_members.+send_items.Given as goal

abbrev pub decreases-send_items : goal.decreases-send_items
decreases-send_items g l = length l.items.now
