use Rattle.index_files.specs.Needed.{HasOnly}
use Rattle.index_files.proofs.folder.put_needed.Given as goal

abbrev pub invariant-files : goal.invariant-files
invariant-files g l = HasOnly l.encodings l.initial.indexes → HasOnly l.encodings l.indexes
