use Rattle.std.proofs.Common.{ap, ◌∙◌, rules}
use Rattle.devices.specs.Histories.{bytes_of}
use Rattle.serving.proofs.Checking as checking
use Rattle.serving.proofs.guarded.Guarded.read_line.Goals as goal

pub loop-preserved : goal.loop-preserved
loop-preserved c = record {
  given = checking.line_goes_on c.loop.self.access c.loop.self.check c.behind-self.result c.in-Line.line c.next.result _ _ c.read.new.buf
      c.in_ok-read.field-0 c.loop.self.known c.in-Line.is c.in_ok-read.ensures.received (search rules) c.in_ok-read.ensures.bound.0
      c.if-branch-eq0.false c.next.ensures c.behind-self.ensures ∙ c.loop.invariant.given;
  taken = ap bytes_of c.read.ensures.sent ∙ c.loop.invariant.taken;
  access = c.loop.invariant.access;
}
