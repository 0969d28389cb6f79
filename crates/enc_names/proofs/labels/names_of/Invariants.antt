-- The labels so far are the names of the encodings so far.
use Rattle.std.proofs.Common.{◌≡◌, take}
use Rattle.enc_names.specs.{LabelEntries.table_of, Labels.labels_of}
use Rattle.enc_names.proofs.labels.names_of.Given as goal

abbrev pub invariant-loop-encoding : goal.invariant-loop-encoding
invariant-loop-encoding l = table_of l.entries.items ≡ labels_of (take l.encoding-index l.encodings)
