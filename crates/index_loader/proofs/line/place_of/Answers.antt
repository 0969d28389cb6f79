use Rattle.index_loader.proofs.Split.{place-of_byte}
use Rattle.index_loader.proofs.line.place_of.Goals as goal

pub returns : goal.returns
returns c = place-of_byte c.args.byte c.args.text.now c.memchr.result c.memchr.ensures
