use Rattle.std.proofs.Common.{◌≡◌, ◌++◌, drop}
use Rattle.desk.proofs.{Prelude.filter, Prelude.has_files}
use Rattle.desk.proofs.desk.Desk.loaded_among.Given as goal

-- those so far, and those that will come
abbrev pub invariant-encodings : goal.invariant-encodings
invariant-encodings l =
    l.loaded.items ++ filter (has_files l.self.indexes) (drop l.encoding-index l.encodings) ≡ filter (has_files l.self.indexes) l.encodings
