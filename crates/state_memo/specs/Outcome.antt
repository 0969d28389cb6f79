-- What a piece decodes to from a state.
use Rattle.std.specs.Prelude.{ℕ, pos, ◌-ℤ◌, List, [], map, flat_map, length}
use Rattle.decoder_core.specs.{declared.item.Ended.Ended as EndedItem, Queue.run, Queue.feed, Shown.Shown, Shown.shown_from, Text.item_code_points}
use Rattle.iso2022jp.specs.declared.output.OutputState.{OutputState}
use Rattle.codec.specs.{declared.state.AnyState.AnyState, Any.AnyDecoding, Any.any, Any.output_of}
use Rattle.state_memo.specs.{declared.ended.Ended.Ended, declared.outcome.Outcome.Outcome, declared.sum.Sum.Sum, Gathering.Gathered, Items.kept_item}
use Rattle.state_memo.specs.{Sums.sum_of}

-- what an outcome says: code points, items, the state after them, and their numbers
pub record Contents : Type 0 where
  pub text : List ℕ
  pub items : List Ended
  pub exit : AnyState
  pub sum : Sum

abbrev pub contents_of : Outcome → Contents
contents_of o = record { text = o.text; items = o.items; exit = o.exit; sum = o.sum }

-- what an outcome says of bytes of which this was gathered, and after which the state is `exit`
abbrev pub contents_by : ℕ → Gathered → AnyState → Contents
contents_by bytes g exit = record { text = g.text; items = g.items; exit = exit; sum = sum_of bytes g.text g.items }

-- the code points and the items that steps give
abbrev pub text_of_shown : List (Shown AnyState) → List ℕ
text_of_shown xs = flat_map (λ (x : Shown AnyState). item_code_points x.item) xs

abbrev pub items_of_shown : List (Shown AnyState) → List Ended
items_of_shown xs = map (λ (x : Shown AnyState). kept_item x.item x.end (output_of x.after)) xs

-- the code points and the items that the end gives
abbrev pub text_of_ended : List EndedItem → List ℕ
text_of_ended es = flat_map (λ (e : EndedItem). item_code_points e.item) es

abbrev pub items_of_ended : OutputState → List EndedItem → List Ended
items_of_ended output es = map (λ (e : EndedItem). kept_item e.item (pos 0 -ℤ pos e.back) output) es

-- what steps over the bytes from a state give: code points, and items with their ends from the first byte on. Each item has the output state
-- after the byte that gave it. Then come the state after the bytes, and the numbers of all that
unfoldable pub outcome_of : AnyDecoding → AnyState → List ℕ → Contents
outcome_of d entry bytes = record {
  text = text_of_shown (shown_from (any d) 0 entry bytes);
  items = items_of_shown (shown_from (any d) 0 entry bytes);
  exit = (feed (any d) entry bytes).state;
  sum = sum_of (length bytes) (text_of_shown (shown_from (any d) 0 entry bytes)) (items_of_shown (shown_from (any d) 0 entry bytes));
}

-- what the end gives in a state, which is unchanged
unfoldable pub ending_of : AnyDecoding → AnyState → Contents
ending_of d state = record {
  text = text_of_ended (run (any d) state []);
  items = items_of_ended (output_of state) (run (any d) state []);
  exit = state;
  sum = sum_of 0 (text_of_ended (run (any d) state [])) (items_of_ended (output_of state) (run (any d) state []));
}
