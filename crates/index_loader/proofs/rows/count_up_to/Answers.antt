use Rattle.std.proofs.{Common.ℕ, Common.leb, Common.rules, lemmas.List.Sorted.IsPartitionPoint-from_clause, lemmas.List.Sorted.IsPartitionedBy-leb}
use Rattle.index_loader.proofs.RowLemmas.{rising-pointers}
use Rattle.index_loader.proofs.rows.count_up_to.Goals as goal

pub returns-clause-place : goal.returns-clause-place
returns-clause-place c =
    IsPartitionPoint-from_clause (λ (y : ℕ × ℕ). leb y.0 c.args.pointer) _ _ c.partition_point.ensures.partitioned
    (IsPartitionedBy-leb (λ (y : ℕ × ℕ). y.0) _ c.args.pointer (rising-pointers _ c.requires))
    (λ a r f h. search rules)
