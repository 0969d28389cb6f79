use Rattle.encoders.proofs.AsciiRuns.{ascii_run, ascii_within}
use Rattle.encoders.proofs.stateless.ByBytesEncoder.plain_run.Goals as goal

pub returns-clause-within : goal.returns-clause-within
returns-clause-within g c = rw c.ascii_run.ensures (ascii_within c.args.text.now)

pub returns-clause-plain : goal.returns-clause-plain
returns-clause-plain g c =
    rw c.ascii_run.ensures
    (ascii_run (g.E.Stateless.encodes c.args.self.now.encoder.now) (g.met.E.Stateless.ascii c.args.self.now.encoder.now) c.args.text.now)
