use Rattle.std.proofs.Common.{sym, Result, Ok, Err, OnOk}
use Rattle.lane_utf.proofs.UnitSums.{paired}
use Rattle.lane_utf.proofs.to_utf8.utf16_to_utf8.Goals as goal

on_ok : {A B : Type 0} (P : Type 0) (r : Result A B) → P → OnOk r P
on_ok P (Ok a) p = p
on_ok P (Err b) p = tt

pub returns-in-None-clause-scalars : goal.returns-in-None-clause-scalars
returns-in-None-clause-scalars c = on_ok _ c.convert.result (paired c.args.units.now c.type_inv.units (sym c.in-None.ensures.first)).are_scalars

pub returns-in-None-clause-form : goal.returns-in-None-clause-form
returns-in-None-clause-form c = on_ok _ c.convert.result (paired c.args.units.now c.type_inv.units (sym c.in-None.ensures.first)).form
