use Rattle.std.proofs.Common.{sym}
use Rattle.serving.specs.declared.first_line.TheConstants.{FIRST_LINE}
use Rattle.serving.proofs.Checking as checking
use Rattle.serving.proofs.check.Check.new.Goals as goal

pub returns-in-Line : goal.returns-in-Line
returns-in-Line c = λ bytes. rw (c.in-Line.is, c.new.ensures.wanted, c.new.ensures.at, c.new.ensures.differs, c.new.ensures.room)
    (sym (checking.line_is c.in-Line.wanted FIRST_LINE bytes))
