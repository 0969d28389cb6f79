-- The labels so far and those of the texts to come are those of all texts.
use Rattle.std.proofs.Common.{◌≡◌, drop, option_map, flat_map}
use Rattle.serde_json.specs.{Find.as_str, View.items_view}
use Rattle.enc_names.specs.{LabelAnswers.behind, LabelEntries.table_of, LabelFile.each, LabelFile.label_of}
use Rattle.enc_names.proofs.labels.file.add_encoding.Given as goal

abbrev pub invariant-loop-text : goal.invariant-loop-text
invariant-loop-text l =
    behind (table_of l.initial.labels.items) (option_map (flat_map (label_of l.encoding)) (each as_str (items_view l.texts)))
    ≡ behind (table_of l.labels.items) (option_map (flat_map (label_of l.encoding)) (each as_str (items_view (drop l.text-index l.texts))))
