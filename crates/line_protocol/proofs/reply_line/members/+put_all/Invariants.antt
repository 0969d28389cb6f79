use Rattle.std.proofs.Common.{◌+◌, length}
use Rattle.line_protocol.proofs.reply_line.members.+put_all.Given as goal

abbrev pub decreases-put_all : goal.decreases-put_all
decreases-put_all l = length l.first.now + length l.second.now
