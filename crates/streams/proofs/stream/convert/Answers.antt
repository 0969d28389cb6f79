use Rattle.streams.proofs.Streaming.{end-failed, ended-so, holds-at, part-failed, read-failed, started, still-ready, unbegun}
use Rattle.streams.proofs.stream.convert.Goals as goal

pub returns-in-Err : goal.returns-in-Err
returns-in-Err g c = unbegun c.in-Err.fault c.args.indexes.now c.args.conversion _ _ _ c.in-Err.ensures.err

pub convert_end-requires : goal.convert_end-requires
convert_end-requires g c =
    let b = c.in-Ok.ensures.ok in
    still-ready c.law_parts.ensures.join c.law_parts.ensures.before c.law_parts.ensures.whole c.args.indexes.now c.args.conversion b.first b.starts
    g.W.Outlet.took _ _ _ (c.in-Ok.begun, tt, c.begin.new.writer) (c.pump.new.taker, tt, c.pump.new.writer)
    (started c.args.indexes.now c.args.conversion c.in-Ok.begun _ _ b) b.ready c.in-Ok-pump.ensures.takes

pub returns-in-Ok-convert_end : goal.returns-in-Ok-convert_end
returns-in-Ok-convert_end g c =
    let b = c.in-Ok.ensures.ok in
    let holds = holds-at c.law_parts.ensures.join c.law_parts.ensures.before c.law_parts.ensures.whole c.args.indexes.now c.args.conversion b.first b.starts
    g.W.Outlet.took _ _ _ (c.in-Ok.begun, tt, c.begin.new.writer) (c.pump.new.taker, tt, c.pump.new.writer)
    (started c.args.indexes.now c.args.conversion c.in-Ok.begun _ _ b) c.in-Ok-pump.ensures.takes in (
      ended-so c.law_parts.ensures.join c.law_parts.ensures.before c.law_parts.ensures.whole c.args.indexes.now c.args.conversion b.first b.starts
          g.W.Outlet.took _ _ _ (c.in-Ok.begun, tt, c.begin.new.writer) (c.pump.new.taker, tt, c.pump.new.writer)
          (started c.args.indexes.now c.args.conversion c.in-Ok.begun _ _ b) _ c.in-Ok-pump.ensures.takes
          (c.in-Ok-convert_end.ensures.ok _ _ holds),
      c.in-Ok-pump.ensures.reads,
    )

pub returns-in-Err-convert_end : goal.returns-in-Err-convert_end
returns-in-Err-convert_end g c =
    let b = c.in-Ok.ensures.ok in
    let holds = holds-at c.law_parts.ensures.join c.law_parts.ensures.before c.law_parts.ensures.whole c.args.indexes.now c.args.conversion b.first b.starts
    g.W.Outlet.took _ _ _ (c.in-Ok.begun, tt, c.begin.new.writer) (c.pump.new.taker, tt, c.pump.new.writer)
    (started c.args.indexes.now c.args.conversion c.in-Ok.begun _ _ b) c.in-Ok-pump.ensures.takes in
    end-failed c.law_parts.ensures.join c.law_parts.ensures.before c.law_parts.ensures.whole c.args.indexes.now c.args.conversion b.first b.starts
    g.W.Outlet.took _ _ _ (c.in-Ok.begun, tt, c.begin.new.writer) (c.pump.new.taker, tt, c.pump.new.writer)
    (started c.args.indexes.now c.args.conversion c.in-Ok.begun _ _ b) _ _ c.in-Ok-pump.ensures.takes
    (c.in-Err-convert_end.ensures.err _ _ holds) c.in-Ok-pump.ensures.reads

pub returns-in-Err-Read : goal.returns-in-Err-Read
returns-in-Err-Read g c =
    let b = c.in-Ok.ensures.ok in
    let takes = rw c.in-Err-Read.field-0-is at c.in-Err-Read.ensures.takes in (
      read-failed c.law_parts.ensures.join c.law_parts.ensures.before c.law_parts.ensures.whole c.args.indexes.now c.args.conversion b.first b.starts
          g.W.Outlet.took _ _ _ (c.in-Ok.begun, tt, c.begin.new.writer) (c.pump.new.taker, tt, c.pump.new.writer)
          (started c.args.indexes.now c.args.conversion c.in-Ok.begun _ _ b) takes,
      rw c.in-Err-Read.field-0-is at c.in-Err-Read.ensures.reads,
    )

pub returns-in-Err-TooManyReads : goal.returns-in-Err-TooManyReads
returns-in-Err-TooManyReads g c =
    let b = c.in-Ok.ensures.ok in
    let takes = rw c.in-Err-TooManyReads.field-0-is at c.in-Err-TooManyReads.ensures.takes in (
      read-failed c.law_parts.ensures.join c.law_parts.ensures.before c.law_parts.ensures.whole c.args.indexes.now c.args.conversion b.first b.starts
          g.W.Outlet.took _ _ _ (c.in-Ok.begun, tt, c.begin.new.writer) (c.pump.new.taker, tt, c.pump.new.writer)
          (started c.args.indexes.now c.args.conversion c.in-Ok.begun _ _ b) takes,
      rw c.in-Err-TooManyReads.field-0-is at c.in-Err-TooManyReads.ensures.reads,
    )

pub returns-in-Err-Taker : goal.returns-in-Err-Taker
returns-in-Err-Taker g c =
    let b = c.in-Ok.ensures.ok in
    let stopped =
    part-failed c.law_parts.ensures.join c.law_parts.ensures.before c.law_parts.ensures.whole c.args.indexes.now c.args.conversion b.first b.starts
    g.W.Outlet.took _ _ _ (c.in-Ok.begun, tt, c.begin.new.writer) (c.pump.new.taker, tt, c.pump.new.writer)
    (started c.args.indexes.now c.args.conversion c.in-Ok.begun _ _ b) c.in-Err-Taker.fault
    (rw c.in-Err-Taker.field-0-is at c.in-Err-Taker.ensures.takes)
    (rw c.in-Err-Taker.field-0-is at c.in-Err-Taker.ensures.reads) in
    rw c.in-Err-Taker.fault-is stopped
