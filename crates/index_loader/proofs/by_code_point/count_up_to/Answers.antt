use Rattle.std.proofs.{Common.ℕ, Common.leb, Common.rules, lemmas.List.Sorted.IsPartitionPoint-from_clause, lemmas.List.Sorted.IsPartitionedBy-leb}
use Rattle.index_loader.proofs.ByCodePointLemmas.{rising-code_points}
use Rattle.index_loader.proofs.by_code_point.count_up_to.Goals as goal

pub returns-clause-place : goal.returns-clause-place
returns-clause-place c =
    IsPartitionPoint-from_clause (λ (y : ℕ × ℕ). leb y.1 c.args.code_point) _ _ c.partition_point.ensures.partitioned
    (IsPartitionedBy-leb (λ (y : ℕ × ℕ). y.1) _ c.args.code_point (rising-code_points _ c.requires))
    (λ a r f h. search rules)
