use Rattle.std.proofs.Common.{length}
use Rattle.line_protocol.proofs.reply_line.members.+put_front.Given as goal

abbrev pub decreases-put_front : goal.decreases-put_front
decreases-put_front l = length l.members.now
