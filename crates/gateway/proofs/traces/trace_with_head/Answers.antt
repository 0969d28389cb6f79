use Rattle.std.proofs.Common.{rules}
use Rattle.gateway.proofs.Headed.{headed_stopped, head_finished, head_unfinished, body_finished, body_unplayed}
use Rattle.gateway.proofs.traces.trace_with_head.Goals as goal

pub returns-in-Err-clause-traces : goal.returns-in-Err-clause-traces
returns-in-Err-clause-traces g c =
    rw c.fault_of.ensures (headed_stopped c.law_lines.ensures g.W.Outlet.took _ _
    (c.start-place.result, c.args.gateway.now, c.args.writer.now) (c.pump.new.taker, c.pump.new.on, c.pump.new.writer)
    c.start-place.ensures.over c.start-place.ensures.head c.start-place.ensures.fresh c.start-place.ensures.number (Unit {0})
    (Unit {0}) c.in-Err.stop c.in-Err.ensures.takes).0

pub returns-in-Err-clause-write_failures : goal.returns-in-Err-clause-write_failures
returns-in-Err-clause-write_failures g c =
    rw c.fault_of.ensures (headed_stopped c.law_lines.ensures g.W.Outlet.took _ _
    (c.start-place.result, c.args.gateway.now, c.args.writer.now) (c.pump.new.taker, c.pump.new.on, c.pump.new.writer)
    c.start-place.ensures.over c.start-place.ensures.head c.start-place.ensures.fresh c.start-place.ensures.number (Unit {0})
    (Unit {0}) c.in-Err.stop c.in-Err.ensures.takes).1

pub returns-in-Ok-finish : goal.returns-in-Ok-finish
returns-in-Ok-finish g c =
    let finished = body_finished c.law_lines.ensures g.W.Outlet.took _ _
    (c.start-place.result, c.args.gateway.now, c.args.writer.now) (c.pump.new.taker, c.pump.new.on, c.pump.new.writer)
    c.start-place.ensures.over c.start-place.ensures.head c.start-place.ensures.fresh c.start-place.ensures.number c.in-Ok.ensures.takes
    c.in-Ok.ensures.reads.end (Unit {0}) tt c.finish.new.gateway (g.W.Outlet.took c.finish.new.writer) c.if-place.true
    c.in-Ok-finish.ensures.plays c.in-Ok-finish.ensures.failures in
    record { traces = finished.0; reads = search rules; write_failures = finished.1 }

pub returns-in-Err-finish : goal.returns-in-Err-finish
returns-in-Err-finish g c =
    let unplayed = body_unplayed c.law_lines.ensures g.W.Outlet.took _ _
    (c.start-place.result, c.args.gateway.now, c.args.writer.now) (c.pump.new.taker, c.pump.new.on, c.pump.new.writer)
    c.start-place.ensures.over c.start-place.ensures.head c.start-place.ensures.fresh c.start-place.ensures.number c.in-Ok.ensures.takes
    c.in-Ok.ensures.reads.end (Unit {0}) c.in-Err-finish.fault c.finish.new.gateway (g.W.Outlet.took c.finish.new.writer) c.if-place.true
    c.in-Err-finish.ensures.plays c.in-Err-finish.ensures.failures in
    rw c.fault_at.ensures (record { traces = unplayed.0; reads = search rules; write_failures = unplayed.1 })

pub returns-in-Ok-end : goal.returns-in-Ok-end
returns-in-Ok-end g c =
    let finished = head_finished c.law_lines.ensures g.W.Outlet.took _ _
    (c.start-place.result, c.args.gateway.now, c.args.writer.now) (c.pump.new.taker, c.pump.new.on, c.pump.new.writer)
    c.start-place.ensures.over c.start-place.ensures.head c.start-place.ensures.fresh c.start-place.ensures.number c.in-Ok.ensures.takes
    c.in-Ok.ensures.reads.end (Unit {0}) tt c.end.new.gateway c.end.new.self c.if-place.false c.in-Ok-end.ensures.lines c.in-Ok-end.ensures.ends in
    record { traces = finished.0; reads = search rules; write_failures = finished.1 }

pub returns : goal.returns
returns g c =
    let unfinished = head_unfinished c.law_lines.ensures g.W.Outlet.took _ _
    (c.start-place.result, c.args.gateway.now, c.args.writer.now) (c.pump.new.taker, c.pump.new.on, c.pump.new.writer)
    c.start-place.ensures.over c.start-place.ensures.head c.start-place.ensures.fresh c.start-place.ensures.number c.in-Ok.ensures.takes
    c.in-Ok.ensures.reads.end (Unit {0}) c.in-Err-end.fault c.end.new.gateway c.end.new.self c.if-place.false
    c.in-Err-end.ensures.lines c.in-Err-end.ensures.ends in
    rw (c.fault_at-in-Err-end.ensures, c.line_fault.ensures) (record { traces = unfinished.0; reads = search rules; write_failures = unfinished.1 })
