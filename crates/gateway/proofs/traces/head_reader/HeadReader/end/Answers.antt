use Rattle.gateway.{specs.Orders.bytes_of, proofs.Heads.last_comment, proofs.Heads.last_line, proofs.Heads.no_last_line}
use Rattle.gateway.proofs.traces.head_reader.HeadReader.end.Goals as goal

pub returns-then-self-clause-ends : goal.returns-then-self-clause-ends
returns-then-self-clause-ends c =
    last_comment {A = Unit {0}} tt c.self.inside.begun c.self.inside.parts c.self.inside.lines c.args.self.now c.args.gateway.now.office
    (rw c.if-self.true at c.self.view_is)

pub returns-then-count-eq0-clause-ends : goal.returns-then-count-eq0-clause-ends
returns-then-count-eq0-clause-ends c =
    no_last_line {A = Unit {0}} c.self.inside.begun c.self.inside.parts c.self.inside.lines c.count.result c.args.self.now
    (rw c.if-self.false at c.self.view_is) (rw c.if-self.false at c.self.invariant)
    c.count.ensures tt c.args.gateway.now.office c.if-count-eq0.true

pub returns-clause-ends : goal.returns-clause-ends
returns-clause-ends c =
    last_line c.self.inside.begun c.self.inside.parts c.self.inside.lines c.count.result c.args.self.now
    (rw c.if-self.false at c.self.view_is) (rw c.if-self.false at c.self.invariant)
    c.count.ensures c.obey_line.result _ c.args.gateway.now.office c.obey_line.new.gateway.office
    (record { line = bytes_of c.end-line.new.self; parts = c.obey_line.new.parts; lines = c.self.inside.lines })
    c.if-count-eq0.false c.end-line.ensures.line c.obey_line.ensures.obeys
