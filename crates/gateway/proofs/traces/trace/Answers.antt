use Rattle.std.proofs.Common.{rules}
use Rattle.gateway.proofs.Tracing.{trace_stopped, trace_finished, trace_unplayed}
use Rattle.gateway.proofs.traces.trace.Goals as goal

pub returns-in-Err-clause-traces : goal.returns-in-Err-clause-traces
returns-in-Err-clause-traces g c =
    rw c.fault_of.ensures (trace_stopped c.law_lines.ensures g.G.TakesEvents.traffic g.W.Outlet.took _ _
    (c.start-place.result, c.args.gateway.now, c.args.writer.now) (c.pump.new.taker, c.pump.new.on, c.pump.new.writer)
    c.start-place.ensures.begun c.start-place.ensures.comment c.start-place.ensures.number
    (Unit {0}) (Unit {0}) c.in-Err.stop c.in-Err.ensures.takes).0

pub returns-in-Err-clause-write_failures : goal.returns-in-Err-clause-write_failures
returns-in-Err-clause-write_failures g c =
    rw c.fault_of.ensures (trace_stopped c.law_lines.ensures g.G.TakesEvents.traffic g.W.Outlet.took _ _
    (c.start-place.result, c.args.gateway.now, c.args.writer.now) (c.pump.new.taker, c.pump.new.on, c.pump.new.writer)
    c.start-place.ensures.begun c.start-place.ensures.comment c.start-place.ensures.number
    (Unit {0}) (Unit {0}) c.in-Err.stop c.in-Err.ensures.takes).1

pub returns-in-Ok-finish : goal.returns-in-Ok-finish
returns-in-Ok-finish g c =
    let finished = trace_finished c.law_lines.ensures g.G.TakesEvents.traffic g.W.Outlet.took _ _
    (c.start-place.result, c.args.gateway.now, c.args.writer.now) (c.pump.new.taker, c.pump.new.on, c.pump.new.writer)
    c.start-place.ensures.begun c.start-place.ensures.comment c.start-place.ensures.number
    c.in-Ok.ensures.takes c.in-Ok.ensures.reads.end (g.G.TakesEvents.traffic c.finish.new.gateway) (g.W.Outlet.took c.finish.new.writer)
    (Unit {0}) tt c.in-Ok-finish.ensures.plays c.in-Ok-finish.ensures.failures in
    record { traces = finished.0; reads = search rules; write_failures = finished.1 }

pub returns : goal.returns
returns g c =
    let unplayed = trace_unplayed c.law_lines.ensures g.G.TakesEvents.traffic g.W.Outlet.took _ _
    (c.start-place.result, c.args.gateway.now, c.args.writer.now) (c.pump.new.taker, c.pump.new.on, c.pump.new.writer)
    c.start-place.ensures.begun c.start-place.ensures.comment c.start-place.ensures.number
    c.in-Ok.ensures.takes c.in-Ok.ensures.reads.end (g.G.TakesEvents.traffic c.finish.new.gateway) (g.W.Outlet.took c.finish.new.writer)
    (Unit {0}) c.in-Err-finish.fault c.in-Err-finish.ensures.plays c.in-Err-finish.ensures.failures in
    rw c.fault_at.ensures (record { traces = unplayed.0; reads = search rules; write_failures = unplayed.1 })
