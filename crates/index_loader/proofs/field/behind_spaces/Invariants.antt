use Rattle.std.proofs.Common.{◌≡◌, length}
use Rattle.index_loader.specs.Lines.{behind_spaces}
use Rattle.index_loader.proofs.field.behind_spaces.Given as goal

abbrev pub invariant-loop-text : goal.invariant-loop-text
invariant-loop-text l = behind_spaces l.text ≡ behind_spaces l.initial.text

abbrev pub decreases-loop-text : goal.decreases-loop-text
decreases-loop-text l = length l.text
