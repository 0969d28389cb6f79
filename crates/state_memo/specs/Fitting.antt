-- The sums of outcomes in a row.
use Rattle.std.specs.Prelude.{List}
use Rattle.sum_tree.specs.Sums.{total}
use Rattle.state_memo.specs.{declared.outcome.Outcome.Outcome, declared.sum.Sum.Sum, Sums.no_sum, Sums.joined}

abbrev pub total_of : List Outcome → Sum
total_of os = total no_sum joined (λ (o : Outcome). o.sum) os
