use Rattle.std.proofs.Common.{sym, ℕ, List, length, take_all, subst, arith}
use Rattle.streams.specs.Checks.{ChecksPart}
use Rattle.streams.proofs.checking.CheckerTakerUnitUnit.take.Goals as goal

pub returns-clause-takes : goal.returns-clause-takes
returns-clause-takes c =
    let bytes = c.args.bytes.now in
    subst (λ (xs : List ℕ). ChecksPart xs c.args.self.now c.check_part.new.self) (sym (take_all (length bytes) bytes (omega arith)))
    c.in_ok-check_part.ensures
