use Rattle.std.proofs.Common.{ap, arith, pos}
use Rattle.state_memo.specs.Plain.{plain_runs}
use Rattle.state_memo.proofs.Prelude.{AsciiOne, Bytes, chars-nil, ints, run_width}
use Rattle.state_memo.proofs.plain_runs.PlainRuns.none.Goals as goal

pub invariant_of-result : goal.invariant_of-result
invariant_of-result c = let none = ap (run_width Bytes) chars-nil in omega (arith, ints, none)

pub returns : goal.returns
returns c = ap (plain_runs Bytes AsciiOne (pos 0)) chars-nil
