use Rattle.std.proofs.Common.{◌-◌, ◌+◌, ◌≤◌, ◌≡◌, length, take, drop, slice_get, Some}
use Rattle.piece_rope.proofs.Prelude.{encode_utf8_all, Outcome, rest_of, edited_parts, parts_of, text_in}
use Rattle.piece_rope.proofs.Matching.{Found}
use Rattle.piece_rope.proofs.rest.behind_standing.Given as goal

abbrev pub invariant-parts : goal.invariant-parts
invariant-parts l = record {
  found : Found (encode_utf8_all (take l.fn.count (drop l.fn.skip (text_in (drop l.fn.place (parts_of l.fn.edited.pieces.now.items l.fn.tail))))))
      (encode_utf8_all (take l.left (drop l.skip (text_in (drop l.place (parts_of l.fn.edited.pieces.now.items l.fn.tail))))))
      (rest_of (edited_parts l.fn.edited.pieces.now.items l.fn.edited.edit.now) l.fn.rest.head.now l.fn.rest.next)
      (rest_of (edited_parts l.fn.edited.pieces.now.items l.fn.edited.edit.now) l.rest.head.now l.rest.next);
  enough : l.skip + l.left ≤ length (text_in (drop l.place (parts_of l.fn.edited.pieces.now.items l.fn.tail)));
  begun : (part : Outcome) → slice_get (parts_of l.fn.edited.pieces.now.items l.fn.tail) l.place ≡ Some part → l.skip ≤ length part.text;
}

abbrev pub decreases-parts : goal.decreases-parts
decreases-parts l = length (parts_of l.fn.edited.pieces.now.items l.fn.tail) - l.place
