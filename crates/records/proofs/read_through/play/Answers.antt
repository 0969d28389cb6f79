use Rattle.records.proofs.ReadThrough.{plays_read}
use Rattle.records.proofs.read_through.play.Goals as goal

pub returns-clause-plays : goal.returns-clause-plays
returns-clause-plays g c = plays_read c.law_playing.ensures.on c.law_playing.ensures.stops _ _ _ _ _ c.pump.result c.pump.ensures.takes
