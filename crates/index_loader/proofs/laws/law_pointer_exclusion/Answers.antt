use Rattle.std.proofs.Common.{None, Some}
use Rattle.index_loader.proofs.Members.{least-of, least-behind, greatest-of, greatest-below}
use Rattle.index_loader.proofs.laws.law_pointer_exclusion.Goals as goal

pub returns : goal.returns
returns c = record {
  least_none = λ test ns. least-of test ns None tt;
  least_kept = λ test ns n e passes. least-of test ns (Some n) passes e;
  least_behind = least-behind;
  greatest_none = λ test ns. greatest-of test ns None tt;
  greatest_kept = λ test ns n e passes. greatest-of test ns (Some n) passes e;
  greatest_below = greatest-below;
}
