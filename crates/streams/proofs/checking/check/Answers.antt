use Rattle.std.proofs.Common.{sym}
use Rattle.devices.specs.Reading.{GivenUp, ReadFailed}
use Rattle.streams.proofs.Checked.{at-end, no-row, part-ran-out, row-of}
use Rattle.streams.proofs.checking.check.Goals as goal

pub returns-in-Ok : goal.returns-in-Ok
returns-in-Ok g c =
    at-end c.args.indexes.now c.args.setting c.args.most (c.in-Some.checker, tt, tt) (c.pump.new.taker, tt, tt) _ _ c.in-Some.ensures.starts
    c.in-Ok.ensures.takes c.row_of.result (sym c.in-Some.ensures.there) c.row_of.ensures.ok c.row_of.ensures.err c.in-Ok.ensures.reads

pub returns-in-Ok-row_of : goal.returns-in-Ok-row_of
returns-in-Ok-row_of g c =
    let takes = rw c.in-Err-Read.field-0-is at c.in-Err-Read.ensures.takes in
    let reads = rw c.in-Err-Read.field-0-is at c.in-Err-Read.ensures.reads in (
      row-of c.args.indexes.now c.args.setting c.args.most (c.in-Some.checker, tt, tt) (c.pump.new.taker, tt, tt) _ _ c.in-Some.ensures.starts takes
          c.in-Ok-row_of.row c.in-Ok-row_of.ensures.ok,
      reads,
    )

pub returns-in-Ok-row_of-2 : goal.returns-in-Ok-row_of-2
returns-in-Ok-row_of-2 g c =
    let takes = rw c.in-Err-TooManyReads.field-0-is at c.in-Err-TooManyReads.ensures.takes in
    let reads = rw c.in-Err-TooManyReads.field-0-is at c.in-Err-TooManyReads.ensures.reads in (
      row-of c.args.indexes.now c.args.setting c.args.most (c.in-Some.checker, tt, tt) (c.pump.new.taker, tt, tt) _ _ c.in-Some.ensures.starts takes
          c.in-Ok-row_of-2.row c.in-Ok-row_of-2.ensures.ok,
      reads,
    )

pub returns-in-Err : goal.returns-in-Err
returns-in-Err g c =
    let takes = rw c.in-Err-Read.field-0-is at c.in-Err-Read.ensures.takes in
    let reads = rw c.in-Err-Read.field-0-is at c.in-Err-Read.ensures.reads in
    no-row c.args.indexes.now c.args.setting c.args.most (c.in-Some.checker, tt, tt) (c.pump.new.taker, tt, tt) _ _ c.in-Some.ensures.starts takes
    c.in-Err.fault ReadFailed tt (sym c.in-Some.ensures.there) c.in-Err.ensures.err reads

pub returns-in-Err-row_of : goal.returns-in-Err-row_of
returns-in-Err-row_of g c =
    let takes = rw c.in-Err-TooManyReads.field-0-is at c.in-Err-TooManyReads.ensures.takes in
    let reads = rw c.in-Err-TooManyReads.field-0-is at c.in-Err-TooManyReads.ensures.reads in
    no-row c.args.indexes.now c.args.setting c.args.most (c.in-Some.checker, tt, tt) (c.pump.new.taker, tt, tt) _ _ c.in-Some.ensures.starts takes
    c.in-Err-row_of.fault GivenUp tt (sym c.in-Some.ensures.there) c.in-Err-row_of.ensures.err reads

pub returns-in-Err-Taker : goal.returns-in-Err-Taker
returns-in-Err-Taker g c = (
  sym c.in-Some.ensures.there,
  part-ran-out (c.in-Some.checker, tt, tt) (c.pump.new.taker, tt, tt) _ _ (rw c.in-Err-Taker.field-0-is at c.in-Err-Taker.ensures.takes)
      (rw c.in-Err-Taker.field-0-is at c.in-Err-Taker.ensures.reads),
)
