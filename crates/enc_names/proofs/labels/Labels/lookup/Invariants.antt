-- No label so far matched.
use Rattle.std.proofs.Common.{◌≡◌, drop}
use Rattle.enc_names.specs.{LabelEntries.table_of, Labels.lookup_in}
use Rattle.enc_names.proofs.labels.Labels.lookup.Given as goal

abbrev pub invariant-loop-entry : goal.invariant-loop-entry
invariant-loop-entry l = lookup_in l.self l.label ≡ lookup_in (table_of (drop l.entry-index l.entry-items)) l.label
