-- Decoding, as documents are decoded: its items, and the states after bytes.
pub use Rattle.state_memo.specs.Decoding.{Item, One, Two, Error, Ended, Placed, places, item_code_points, code_points, error_place, error_places, Decoded}
pub use Rattle.state_memo.specs.Decoding.{fatal_of, run_in, in_force, mark_length, OutputState, Ascii, Roman, Katakana, Jis0208}
unfoldable pub use Rattle.state_memo.specs.{Decoding.decode, Decoding.output_behind, Decoding.run, Decoding.turns, Decoding.feed, Feeding.feed_for}
