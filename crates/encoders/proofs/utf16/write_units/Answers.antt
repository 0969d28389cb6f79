use Rattle.encoders.proofs.Utf16Forms.{front-swapped}
use Rattle.encoders.proofs.utf16.write_units.Goals as goal

pub returns-in-BigEndian : goal.returns-in-BigEndian
returns-in-BigEndian c = front-swapped c.args.order c.args.units.now _ c.swap_pairs.new.bytes _ c.in-BigEndian.is c.write_little.ensures c.swap_pairs.ensures
