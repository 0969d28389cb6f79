use Rattle.iso2022jp.{specs.Iso2022JpEncoder.iso_pointer, proofs.PlainRuns.plain_run}
use Rattle.iso2022jp.proofs.iso_encoder.Iso2022JpEncoderEncoder.plain_run.Goals as goal

pub returns-in-Ascii-clause-plain : goal.returns-in-Ascii-clause-plain
returns-in-Ascii-clause-plain c =
    rw (c.in-Ascii.is, c.plain_run_iso.ensures)
    (plain_run (iso_pointer c.args.self.now.0 c.args.self.now.1) c.args.text.now)
