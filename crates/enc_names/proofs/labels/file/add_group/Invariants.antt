-- The labels so far and those of the encodings to come are those of all encodings.
use Rattle.std.proofs.Common.{◌≡◌, drop, option_map, flat_map}
use Rattle.serde_json.specs.View.{items_view}
use Rattle.enc_names.specs.{LabelAnswers.behind, LabelEntries.table_of, LabelFile.each, LabelFile.labels_listed, LabelFile.listed_of}
use Rattle.enc_names.proofs.labels.file.add_group.Given as goal

abbrev pub invariant-loop-listed : goal.invariant-loop-listed
invariant-loop-listed l =
    behind (table_of l.initial.labels.items) (option_map (flat_map labels_listed) (each listed_of (items_view l.encodings)))
    ≡ behind (table_of l.labels.items) (option_map (flat_map labels_listed) (each listed_of (items_view (drop l.listed-index l.encodings))))
