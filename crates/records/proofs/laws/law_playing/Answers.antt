use Rattle.records.proofs.Playing.{plays_go_on, stops_go_on}
use Rattle.records.proofs.laws.law_playing.Goals as goal

pub returns : goal.returns
returns c = record { on = plays_go_on c.law_lines.ensures; stops = stops_go_on c.law_lines.ensures }
