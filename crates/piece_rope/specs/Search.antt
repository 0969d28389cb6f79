-- How pieces are found, for the crates above: by a number of the sums before them.
pub use Rattle.state_memo.specs.declared.axis.Axis.{Axis, TheVariants.Byte, TheVariants.Scalar, TheVariants.Utf16, TheVariants.Utf8, TheVariants.Mark}
pub use Rattle.state_memo.specs.Sums.{measure}
pub use Rattle.sum_tree.specs.{Reached.IsFound, Sums.total}
