-- What is unfolded where a worked label file is computed by the definitions.
use Rattle.std.specs.Str.{is_utf8, chars}
use Rattle.serde_json.proofs.OnLiterals.{serde_json_on_literals}

unfoldable pub of_label_files : Unit {0}
unfolding is_utf8 chars serde_json_on_literals
of_label_files = tt
