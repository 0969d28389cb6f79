use Rattle.std.proofs.Common.{rules, ℕ, ◌≤◌}
use Rattle.std.proofs.lemmas.List.Sorted.{All-permutation, IsNonDecreasingBy-from_sort, answers_always}
use Rattle.index_loader.specs.Rank.{rank_of}
use Rattle.index_loader.proofs.by_code_point.in_order.Goals as goal

pub returns-clause-order : goal.returns-clause-order
returns-clause-order c = record {
  rising = IsNonDecreasingBy-from_sort rank_of _ (c.sort_unstable_by_key.ensures.sorted rank_of (answers_always _ _ _ (λ f a r g h. search rules)));
  small = All-permutation (λ (pair : ℕ × ℕ). pair.0 ≤ 189000) _ _ c.sort_unstable_by_key.ensures.permutation c.requires;
}
