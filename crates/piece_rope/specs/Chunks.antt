-- Places among the pieces of a document, and the bytes there.
use Rattle.std.specs.Prelude.{ℕ, ◌≤◌, List, length}
use Rattle.std.specs.Str.{encode_utf8_all}
use Rattle.state_memo.specs.declared.outcome.Outcome.{Outcome}
use Rattle.piece_rope.specs.{Entry.Entry, Sizes.most_pieces}

-- the bytes of a part's text
abbrev pub written : Outcome → List ℕ
written o = encode_utf8_all o.text

-- two places of parts, of which there are so few that one more can be counted
pub record ArePlaces (ps : List Entry) (from to : ℕ) : Type 0 where
  pub from_within : from ≤ length ps
  pub to_within : to ≤ length ps
  pub few : length ps ≤ most_pieces
