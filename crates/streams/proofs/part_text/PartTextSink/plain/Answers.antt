use Rattle.std.proofs.Common.{w64, arith, ◌<◌, length, sym, ap, ◌∙◌, to_z-of_z}
use Rattle.std.proofs.lemmas.Bool.{eqb-true, eqb-false}
use Rattle.std.specs.Str.{chars}
use Rattle.decoder_core.specs.Bulk.{plain_to}
use Rattle.streams.specs.Gathering.{Gathered, with_text}
use Rattle.streams.proofs.Texts.{gathered-none, gathered-plain, gathered-stopped}
use Rattle.streams.proofs.part_text.PartTextSink.plain.Goals as goal
use Rattle.streams.proofs.part_text.PartTextSink.plain.Goals.{then-self-via-then-self, then-self-via-else-self+then-is_empty}

pub returns-then-self-clause-ok : goal.returns-then-self-clause-ok
returns-then-self-clause-ok g c =
    elim c.then-self.branch [
      | then-self-via-then-self w ↦
          gathered-stopped {S = g.row.S.Denot} c.args.self.now (plain_to c.args._stride c.args.end c.args._after (chars c.args.text.now))
          (ap (λ (h : Gathered). h.stopped) (sym c.self.view_is) ∙ w.if-self.true)
      | then-self-via-else-self+then-is_empty w ↦
          gathered-none c.args._stride c.args.end c.args._after c.args.text.now c.args.self.now (eqb-true _ _ (sym w.if-is_empty.ensures))
    ]

pub returns-clause-ok : goal.returns-clause-ok
returns-clause-ok g c =
    let some : 0 < length c.args.text.now = grind (arith, eqb-false _ _ (sym c.if-is_empty.ensures)) in
    rw (to_z-of_z {w = w64} c.ranges.end, c.in_ok-put_text.ensures.ok)
    (ap (λ (h : Gathered). with_text c.args.text.now c.args.end h) c.self.view_is
    ∙ gathered-plain c.args._stride c.args.end c.args._after c.args.text.now c.args.self.now
    (ap (λ (h : Gathered). h.stopped) (sym c.self.view_is) ∙ c.if-self.false) c.utf8.text some)
