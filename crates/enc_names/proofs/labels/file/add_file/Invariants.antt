-- The labels so far and those of the groups to come are those of all groups.
use Rattle.std.proofs.Common.{◌≡◌, drop, option_map, flat_map}
use Rattle.serde_json.specs.View.{items_view}
use Rattle.enc_names.specs.{LabelAnswers.behind, LabelEntries.table_of, LabelFile.each, LabelFile.group_of, LabelFile.labels_listed}
use Rattle.enc_names.proofs.labels.file.add_file.Given as goal

abbrev pub invariant-loop-group : goal.invariant-loop-group
invariant-loop-group l =
    behind (table_of l.initial.labels.items) (option_map (flat_map (flat_map labels_listed)) (each group_of (items_view l.group-items)))
    ≡ behind (table_of l.labels.items) (option_map (flat_map (flat_map labels_listed)) (each group_of (items_view (drop l.group-index l.group-items))))
