use Rattle.iso2022jp.proofs.Restoring.{settles}
use Rattle.iso2022jp.proofs.from_state.law_no_second_restore.Goals as goal

pub returns : goal.returns
returns c = settles
