-- Runs of items, for the crates above.
pub use Rattle.state_memo.specs.declared.kind.ItemKind.{ItemKind}
pub use Rattle.state_memo.specs.declared.kind.ItemKind.TheVariants.{AsciiOne, AsciiTwo, AsciiError, RomanOne, RomanTwo, RomanError, KatakanaOne, KatakanaTwo}
pub use Rattle.state_memo.specs.declared.kind.ItemKind.TheVariants.{KatakanaError, Jis0208One, Jis0208Two, Jis0208Error}
pub use Rattle.state_memo.specs.{declared.run.Run.Run, Runs.item_of_kind, Runs.items_of_run, Runs.items_of_runs, Runs.items_until}
