use Rattle.piece_rope.proofs.Prelude.{◌≡◌, ◌-◌, ◌≤◌, ◌++◌, ◌+◌, length, take, drop, slice_get, Some, string_bytes, chars, Entry, here_of, texts_of}
use Rattle.piece_rope.proofs.text.text_between.Given as goal

abbrev pub invariant-pieces : goal.invariant-pieces
invariant-pieces l = record {
  text : chars (string_bytes l.text) ++ take l.left (drop l.skip (texts_of (drop l.place l.pieces.items) ++ l.tail.text))
      ≡ take (l.j - l.i) (drop l.i (texts_of l.pieces.items ++ l.tail.text));
  enough : l.skip + l.left ≤ length (texts_of (drop l.place l.pieces.items) ++ l.tail.text);
  within : (p : Entry) → slice_get l.pieces.items l.place ≡ Some p → l.skip ≤ length (here_of p).text;
  place : l.place ≤ length l.pieces.items;
}

abbrev pub decreases-pieces : goal.decreases-pieces
decreases-pieces l = length l.pieces.items - l.place
