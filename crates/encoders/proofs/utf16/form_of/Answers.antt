use Rattle.std.proofs.Common.{arith, length}
use Rattle.encoders.proofs.Utf16Forms.{not-refused, form-taken}
use Rattle.encoders.proofs.utf16.form_of.Goals as goal

pub unreachable-requires : goal.unreachable-requires
unreachable-requires c =
    not-refused c.args.part.now c.in-Err.field-0.0 (length c.args.units.now) c.utf8.part (Prim.omega (arith, c.requires, c.told-units)) c.in-Err.ensures.answer

pub returns-clause-form : goal.returns-clause-form
returns-clause-form c = form-taken c.law_forms.ensures.widths c.args.part.now c.utf8_to_utf16.new.units c.args.units.now c.in-Ok.count
    (length c.args.units.now) c.in-Ok.ensures.answer c.in-Ok.ensures.written
