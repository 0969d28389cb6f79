-- A piece of a document and the state in which it is entered.
use Rattle.std.specs.Prelude.{◌≡◌, ℕ, true, List, [], flat_map, Option, Some, None, is_some}
use Rattle.std.proofs.Common.{refl, lit≤}
use Rattle.state_memo.specs.{Decoding.AnyState, declared.outcome.Outcome.Outcome}
use Rattle.state_memo.specs.{declared.sum.Sum.Sum, Memo.Memo, Memo.recalled, declared.ended.Ended.Ended, Sums.joined, Sums.no_sum}
use Rattle.sum_tree.specs.Sums.{total}

pub record Entry : Type 0 where
  pub piece : Memo
  pub entry : AnyState

-- the outcome from there is remembered
abbrev pub IsKnown : Memo → AnyState → Type 0
IsKnown piece entry = is_some (recalled piece.known entry) ≡ true

-- that outcome
abbrev pub here : Entry → Option Outcome
here p = recalled p.piece.known p.entry

-- nothing, if none is remembered
abbrev pub no_outcome : AnyState → Outcome
no_outcome s = record {
  text = [];
  items = [];
  exit = s;
  sum = no_sum;
  memory = 0;
  summed = record { scalars = refl; utf16 = refl; utf8 = refl; errors = refl; marks = refl; lf_first = refl; cr_last = refl; counted = refl };
  bounded = record { utf8 = lit≤ tt; errors = lit≤ tt };
  held = lit≤ tt;
}

abbrev pub outcome_or : AnyState → Option Outcome → Outcome
outcome_or s None = no_outcome s
outcome_or s (Some o) = o

-- what the piece decodes to from its entry
abbrev pub here_of : Entry → Outcome
here_of p = outcome_or p.entry (here p)

abbrev pub entry_sum : Entry → Sum
entry_sum p = (here_of p).sum

-- the text of pieces in order
abbrev pub texts_of : List Entry → List ℕ
texts_of ps = flat_map (λ (p : Entry). (here_of p).text) ps

-- their items
abbrev pub items_of : List Entry → List Ended
items_of ps = flat_map (λ (p : Entry). (here_of p).items) ps

-- their sum
abbrev pub sums_of : List Entry → Sum
sums_of ps = total no_sum joined entry_sum ps
