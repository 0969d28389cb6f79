use Rattle.std.specs.Str.{chars}
use Rattle.state_memo.proofs.CodePoints.{bytes-counted}
use Rattle.state_memo.proofs.plain.count_of.Goals as goal

pub returns-in-Bytes : goal.returns-in-Bytes
returns-in-Bytes c = bytes-counted c.args.stride (chars c.args.text.now) c.args.width c.in-Bytes.is c.requires
