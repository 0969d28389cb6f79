use Rattle.desk.proofs.KeptText as kept
use Rattle.desk.proofs.laws.law_changes_keep_text.Goals as goal

pub returns : goal.returns
returns c = record {
  changes = kept.law_changes_keep_text;
  given = kept.law_given_bytes_keep_text;
  lists = kept.law_lists_keep_text;
  each = kept.law_lists_are_their_changes;
}
