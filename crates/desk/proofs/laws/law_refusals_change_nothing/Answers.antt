use Rattle.desk.proofs.Rows as rows
use Rattle.desk.proofs.laws.law_refusals_change_nothing.Goals as goal

pub returns : goal.returns
returns c = record { changes = rows.only_changes_change; documents = rows.law_refusals_change_nothing; memory = rows.memory_is_never_wanted }
