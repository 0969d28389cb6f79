use Rattle.decoder_core.proofs.Utf16Runs.{swapped-units}
use Rattle.decoder_core.proofs.utf16_bulk.read_units.Goals as goal

pub returns-in-BigEndian : goal.returns-in-BigEndian
returns-in-BigEndian c =
    let swapped = rw c.requires.even at c.swap_into.ensures in
    rw (c.in-BigEndian.is, c.read_little-in-BigEndian.ensures, swapped) (swapped-units c.args.bytes.now)
