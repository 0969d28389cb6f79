use Rattle.std.proofs.Common.{sym, ap, ◌∙◌, Bool}
use Rattle.std.specs.Str.{chars}
use Rattle.streams.specs.Counting.{pairs}
use Rattle.streams.proofs.Numbers.{no-pairs, pairs-are}
use Rattle.streams.proofs.counts.pairs_in.Goals as goal

pub returns-then-not-after_cr : goal.returns-then-not-after_cr
returns-then-not-after_cr c =
    sym (ap (λ (f : Bool). pairs f (chars c.args.text.now)) c.if-not-after_cr.true ∙ no-pairs (chars c.args.text.now) (sym c.requires.crs ∙ c.if-crs-eq0.true))

pub returns : goal.returns
returns c =
    rw (c.saturating_sub-2.ensures, c.saturating_sub.ensures, c.count_of.ensures)
    (pairs-are c.args.after_cr (chars c.args.text.now) c.args.lines c.args.crs c.requires.lines c.requires.crs)
