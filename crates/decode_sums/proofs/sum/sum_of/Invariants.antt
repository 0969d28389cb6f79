use Rattle.std.proofs.Common.{take}
use Rattle.sha2.specs.Hashers.{Holds256}
use Rattle.decode_sums.specs.Hashed.{hashed_in}
use Rattle.decode_sums.proofs.sum.sum_of.Given as goal

abbrev pub invariant-forms : goal.invariant-forms
invariant-forms l = Holds256 l.hasher (hashed_in l.indexes l.encoding (take l.form-index l.forms))
