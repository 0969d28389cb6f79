use Rattle.std.proofs.Common.{ℕ, List, ◌++◌}
use Rattle.sha2.specs.Hashers.{Holds256}
use Rattle.decode_sums.specs.Hashed.{hashed_below}
use Rattle.decode_sums.proofs.sum.hash_form.Given as goal

abbrev pub invariant-documents : goal.invariant-documents
invariant-documents l = (m : List ℕ) → Holds256 l.initial.hasher m → Holds256 l.hasher (m ++ hashed_below l.indexes l.encoding l.form l.number)
