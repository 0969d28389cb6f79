use Rattle.std.proofs.Common.{◌≡◌, length, reverse}
use Rattle.index_loader.specs.Lines.{behind_spaces}
use Rattle.index_loader.proofs.field.stripped.Given as goal

abbrev pub invariant-loop-text : goal.invariant-loop-text
invariant-loop-text l = reverse (behind_spaces (reverse l.text)) ≡ reverse (behind_spaces (reverse l.initial.text))

abbrev pub decreases-loop-text : goal.decreases-loop-text
decreases-loop-text l = length l.text
