use Rattle.std.proofs.Common.{subst, sym, ◌∙◌}
use Rattle.index_files.specs.Needed.{HasOnly}
use Rattle.index_files.proofs.Loading.{only-excepted, only-none}
use Rattle.index_files.proofs.folder.indexes_for.Goals as goal
use Rattle.index_files.proofs.folder.indexes_for.Goals.{then-is_needed+in_ok-put_exceptions, else-is_needed}

pub returns-clause-only : goal.returns-clause-only
returns-clause-only g c =
    let first = c.in_ok-put_needed.ensures.only (subst (HasOnly c.args.encodings.now) (sym c.new-indexes.ensures) (only-none c.args.encodings.now)) in
    elim c.if-is_needed.branch [
      | then-is_needed+in_ok-put_exceptions w ↦
          subst (HasOnly c.args.encodings.now) (sym w.indexes-is)
          (only-excepted c.args.encodings.now c.put_needed.new.indexes w.put_exceptions.new.indexes (sym c.is_needed.ensures ∙ w.if-is_needed.true)
          w.in_ok-put_exceptions.ensures.put first)
      | else-is_needed w ↦ subst (HasOnly c.args.encodings.now) (sym w.indexes-is) first
    ]
