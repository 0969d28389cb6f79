use Rattle.std.proofs.Common.{Bool, true, ap, sym, ◌∙◌}
use Rattle.std.specs.Str.{chars}
use Rattle.encoders.specs.{Parts.iso_part, Steps.encoded_iso}
use Rattle.encoders.proofs.Joining.{iso-failed}
use Rattle.encoders.proofs.parts.encode_iso_part.Goals as goal

pub returns-in-Ok : goal.returns-in-Ok
returns-in-Ok c = rw (← c.has.ensures, c.if-not-has.false, ← c.is_html.ensures) (ap iso_part c.in-Ok.ensures)

pub returns-in-Err : goal.returns-in-Err
returns-in-Err c =
    rw c.from.ensures
    (iso-failed _ (encoded_iso c.args.indexes.now c.args.part.state (chars c.args.part.text.now) c.is_html.result c.args.part.is_last) _ c.in-Err.fault
    (sym c.has.ensures ∙ c.if-not-has.false)
    (ap (λ (html : Bool). encoded_iso c.args.indexes.now c.args.part.state (chars c.args.part.text.now) html c.args.part.is_last) c.is_html.ensures)
    c.in-Err.ensures)
