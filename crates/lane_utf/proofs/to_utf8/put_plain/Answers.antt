use Rattle.std.proofs.Common.{arith}
use Rattle.lane_utf.proofs.UnitForms.{form_at}
use Rattle.lane_utf.proofs.to_utf8.put_plain.Goals as goal

pub lanes-init : goal.lanes-init
lanes-init c = record {
  count = omega arith;
  read = omega arith;
  paired = c.requires.paired;
  room = c.requires.room;
  up_to = λ old u. u;
}

pub put_unit-reached-requires-clause-left : goal.put_unit-reached-requires-clause-left
put_unit-reached-requires-clause-left c = omega (arith, c.requires.left, c.lanes.invariant.read, c.lanes-test.true)

pub put_unit-reached-requires-clause-form : goal.put_unit-reached-requires-clause-form
put_unit-reached-requires-clause-form c =
    rw c.lanes.invariant.read (form_at c.args.lanes c.args.units.now _ _ c.args.from.read c.lanes.lane c.lanes-test.true c.fits-lanes.0 c.fits-lanes.1
    c.requires.lanes c.requires.plain c.forms-forms.ensures c.widths-widths.ensures)

pub put_unit-reached-requires-clause-paired : goal.put_unit-reached-requires-clause-paired
put_unit-reached-requires-clause-paired c = c.lanes.invariant.paired

pub put_unit-reached-requires-clause-room : goal.put_unit-reached-requires-clause-room
put_unit-reached-requires-clause-room c = rw c.lanes.auto.bytes c.lanes.invariant.room

pub lanes-preserved : goal.lanes-preserved
lanes-preserved c = record {
  count = omega (arith, c.lanes-test.true);
  read = omega (arith, c.put_unit-reached.ensures.read, c.lanes.invariant.read);
  paired = c.put_unit-reached.ensures.paired;
  room = rw c.lanes.auto.bytes at c.put_unit-reached.ensures.room;
  up_to = λ old u. c.put_unit-reached.ensures.up_to old (c.lanes.invariant.up_to old u);
}

pub returns-clause-more : goal.returns-clause-more
returns-clause-more c = omega (arith, c.lanes.invariant.read, c.lanes.invariant.count, c.lanes-test.false)

pub returns-clause-up_to : goal.returns-clause-up_to
returns-clause-up_to c = c.lanes.invariant.up_to
