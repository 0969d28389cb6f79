use Rattle.std.proofs.Common.{Bool, true, ap, chars}
use Rattle.iso2022jp.specs.declared.output.OutputState.TheVariants.{Ascii}
use Rattle.encoders.{specs.Encode.bytes_only, specs.Steps.encoded_iso, proofs.Choosing.failed}
use Rattle.encoders.proofs.dispatch.encode_iso.Goals as goal

pub returns-in-Ok : goal.returns-in-Ok
returns-in-Ok c = rw (← c.is_html.ensures) (ap bytes_only c.in-Ok.ensures)

pub returns-in-Err : goal.returns-in-Err
returns-in-Err c =
    rw c.from.ensures
    (failed (encoded_iso c.args.indexes.now Ascii (chars c.args.text.now) c.is_html.result true) _ c.in-Err.fault
    (ap (λ (html : Bool). encoded_iso c.args.indexes.now Ascii (chars c.args.text.now) html true) c.is_html.ensures) c.in-Err.ensures)
