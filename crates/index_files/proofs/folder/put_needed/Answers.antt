use Rattle.std.proofs.Common.{subst, sym, ◌∙◌}
use Rattle.index_files.specs.Needed.{HasOnly}
use Rattle.index_files.proofs.Loading.{fault-at, put-at}
use Rattle.index_files.proofs.folder.put_needed.Goals as goal
use Rattle.index_files.proofs.folder.put_needed.Goals.{then-is_needed+in-Ok, else-is_needed}

pub files-preserved : goal.files-preserved
files-preserved g c =
    λ start.
    elim c.if-is_needed.branch [
      | then-is_needed+in-Ok w ↦
          subst (HasOnly c.args.encodings.now) (sym w.indexes-is)
          (put-at c.args.files.now c.files.kind-index _ c.args.encodings.now c.files.indexes w.put_index.new.indexes
          (sym c.is_needed.ensures ∙ w.if-is_needed.true) w.in-Ok.ensures.put (c.files.invariant start))
      | else-is_needed w ↦ subst (HasOnly c.args.encodings.now) (sym w.indexes-is) (c.files.invariant start)
    ]

pub returns-in-Err-clause-fault : goal.returns-in-Err-clause-fault
returns-in-Err-clause-fault g c =
    fault-at c.args.files.now c.files.kind-index _ c.args.encodings.now c.in-Err.fault c.files-test.true (sym c.is_needed.ensures ∙ c.if-is_needed.true)
    c.in-Err.ensures.fault
