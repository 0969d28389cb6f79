-- How a piece keeps its items.
use Rattle.std.specs.{Box.box_value, Prelude.List}
use Rattle.state_memo.specs.declared.{ended.Ended.Ended, items.Kept.Kept}
use Rattle.state_memo.specs.declared.items.Kept.TheVariants.{InRuns, InShapes, InText}
use Rattle.state_memo.specs.Runs.{items_of_runs}

abbrev pub kept_items : Kept → List Ended
kept_items (InRuns runs) = items_of_runs runs.items
kept_items (InShapes shaped) = items_of_runs (box_value shaped)
kept_items (InText plain) = plain
