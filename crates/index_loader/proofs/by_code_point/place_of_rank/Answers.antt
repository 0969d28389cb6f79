use Rattle.std.proofs.{Common.ℕ, Common.ltb, Common.rules, lemmas.List.Sorted.IsPartitionPoint-from_clause, lemmas.List.Sorted.IsPartitionedBy-ltb}
use Rattle.index_loader.specs.Rank.{rank_of}
use Rattle.index_loader.proofs.by_code_point.place_of_rank.Goals as goal

pub returns-clause-place : goal.returns-clause-place
returns-clause-place c =
    IsPartitionPoint-from_clause (λ (y : ℕ × ℕ). ltb (rank_of y) c.args.start) _ _ c.partition_point.ensures.partitioned
    (IsPartitionedBy-ltb rank_of _ c.args.start c.requires.rising)
    (λ a r f h. search rules)
