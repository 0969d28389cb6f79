use Rattle.std.proofs.Common.{length}
use Rattle.line_protocol.proofs.reply_line.sent_members.+send_members.Given as goal

abbrev pub decreases-send_members : goal.decreases-send_members
decreases-send_members g l = length l.members.now
