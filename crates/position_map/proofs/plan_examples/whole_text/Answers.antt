use Rattle.position_map.proofs.Words.{refl, encode, decode, output_behind, run, turns, feed, feed_for, decoded_text, planned, replacing}
use Rattle.position_map.proofs.plan_examples.whole_text.Goals as goal

pub returns : goal.returns
unfolding planned replacing decoded_text decode output_behind run turns feed feed_for encode
returns c = record { unmarked = refl; marked = refl; kept = refl }
