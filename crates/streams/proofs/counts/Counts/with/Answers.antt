use Rattle.std.proofs.Common.{◌≡◌, sym, ◌∙◌, ℕ, arith}
use Rattle.std.specs.Str.{chars}
use Rattle.streams.specs.Counting.{column_on, counted}
use Rattle.streams.proofs.Numbers.{flat, made-same}
use Rattle.streams.proofs.counts.Counts.with.Goals as goal
use Rattle.streams.proofs.counts.Counts.with.Goals.{then-lines-eq0+then-pairs-eq0+in_ok-column, else-lines-eq0+in_ok-column-2}

pub returns : goal.returns
returns c =
    let cs = chars c.args.text.now in
    let column : c.if-lines-eq0.column ≡ column_on c.args.self.column cs = elim c.if-lines-eq0.branch [
      | then-lines-eq0+then-pairs-eq0+in_ok-column w ↦
          w.column-is ∙ w.in_ok-column.ensures
          ∙ omega (
            arith,
            flat c.args.self.after_cr c.args.self.column cs (sym c.count_marks-lines.ensures ∙ w.if-lines-eq0.true)
                (sym c.pairs_in-pairs.ensures ∙ w.if-pairs-eq0.true),
            c.count_scalars-scalars.ensures,
          )
      | else-lines-eq0+in_ok-column-2 w ↦ w.column-is ∙ w.in_ok-column-2.ensures
    ] in
    made-same _ _ _ _ _ _ _ _ _ _ _ _ (omega (arith, c.in_ok-more.ensures, c.count_scalars-scalars.ensures))
    (omega (arith, c.in_ok-more-2.ensures, c.count_marks-lines.ensures)) (omega (arith, c.in_ok-more-3.ensures, c.count_of-crs.ensures))
    (omega (arith, c.in_ok-more-4.ensures, c.pairs_in-pairs.ensures)) column c.ends_cr.ensures
