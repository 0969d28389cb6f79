-- What kept labels stand for.
use Rattle.std.specs.Prelude.{List, [], ◌∷◌, string_bytes}
use Rattle.enc_names.specs.{declared.labels.Label.Label, Labels.LabelTable}

-- each label's bytes with its encoding
abbrev pub table_of : List Label → LabelTable
table_of [] = []
table_of (label ∷ labels) = (string_bytes label.text, label.encoding) ∷ table_of labels
