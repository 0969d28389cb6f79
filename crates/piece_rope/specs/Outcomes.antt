-- What pieces remember, for the crates above: outcomes, their items, and the sums of these.
pub use Rattle.state_memo.specs.{Facts.IsSumOf, Fitting.total_of, Items.all_scalars, Items.errors_in, Items.is_an_error, Items.item_of, Items.scalars_before}
pub use Rattle.state_memo.specs.{Lines.begins_lf, Parts.IsScalarCut, Sums.no_sum, Sums.joined}
pub use Rattle.state_memo.specs.declared.{ended.Ended.Ended, outcome.Outcome.Outcome, sum.Sum.Sum}
