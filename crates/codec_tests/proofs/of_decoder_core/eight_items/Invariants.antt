use Rattle.std.proofs.Common.{◌≡◌, length}
use Rattle.codec_tests.proofs.of_decoder_core.eight_items.Given as goal

abbrev pub invariant-loop-back : goal.invariant-loop-back
invariant-loop-back g l = length l.items ≡ l.back
