use Rattle.piece_rope.proofs.Prelude.{◌≡◌, ◌∙◌, PreparedEdit, refl, sym, arith, chars, is_kept, parts_of, text_in, bytes_of, Document, document, kept_fault}
use Rattle.piece_rope.proofs.Prelude.{splice_fault, err_from_is_err_and}
use Rattle.piece_rope.proofs.KeptAnswering.{another-kept, kept-answer, kept-cut, parts-whole, range-absent, same-ends, scalars-kept}
use Rattle.piece_rope.proofs.doc.kept.prepare_kept.Goals.{After-keeps_text, After-prepare_splice, then-i-j-via-then-i-j, then-i-j-via-else-i-j+then-j-whole_sum}
use Rattle.piece_rope.proofs.{Keeping.join-kept, Parting.whole-scalars, Stopping.kept-stops}
use Rattle.piece_rope.proofs.doc.kept.prepare_kept.Goals as goal

pub whole_sum-requires-clause-few : goal.whole_sum-requires-clause-few
whole_sum-requires-clause-few c = join-kept c.requires

pub returns-then-i-j-clause-faults : goal.returns-then-i-j-clause-faults
returns-then-i-j-clause-faults c =
    let doc : Document = document c.args.indexes.now c.args.setting (bytes_of c.args.pieces.now.items) in
    elim c.then-i-j.branch [
      | then-i-j-via-then-i-j w ↦ range-absent doc c.args.at c.args.del c.args.ins.now c.args.i c.args.j (λ order. absurd (omega (arith, order, w.if-i-j.true)))
      | then-i-j-via-else-i-j+then-j-whole_sum w ↦
          let count = scalars-kept w.whole_sum.ensures c.requires in
          range-absent doc c.args.at c.args.del c.args.ins.now c.args.i c.args.j (λ order. omega (arith, count, w.if-j-whole_sum.true))
    ]

-- the range exists, so the splice alone can be refused
cut : (c : After-prepare_splice) → let doc = document c.args.indexes.now c.args.setting (bytes_of c.args.pieces.now.items) in
    kept_fault doc c.args.at c.args.del c.args.ins.now c.args.i c.args.j ≡ splice_fault doc.bytes c.args.at c.args.del c.args.ins.now
cut c =
    let count = scalars-kept c.whole_sum.ensures c.requires in
    kept-cut (document c.args.indexes.now c.args.setting (bytes_of c.args.pieces.now.items)) c.args.at c.args.del c.args.ins.now c.args.i c.args.j
    (omega (arith, c.if-i-j.false)) (omega (arith, count, c.if-j-whole_sum.false))

pub returns-in_err-edit-clause-faults : goal.returns-in_err-edit-clause-faults
returns-in_err-edit-clause-faults c =
    let x = goal.at.returns-in_err-edit-clause-faults c in
    let ps = c.args.pieces.now.items in
    let doc : Document = document c.args.indexes.now c.args.setting (bytes_of ps) in
    let e = err_from_is_err_and c.from_residual.result c.from_residual.ensures.1 in
    rw (e.1, e.2) (kept-stops PreparedEdit (kept_fault doc c.args.at c.args.del c.args.ins.now c.args.i c.args.j)
    (splice_fault doc.bytes c.args.at c.args.del c.args.ins.now) _
    (is_kept doc c.args.at c.args.del c.args.ins.now c.args.i c.args.j (chars c.args.text.now)) _ (cut x.After-prepare_splice)
    (another-kept doc c.args.at c.args.del c.args.ins.now c.args.i c.args.j (chars c.args.text.now) (text_in (parts_of ps c.args.tail.now))
    (parts-whole doc ps c.args.tail.now c.requires.whole)) c.in_err-edit.ensures.faults)

pub returns-in_err-edit-clause-meter_refused : goal.returns-in_err-edit-clause-meter_refused
returns-in_err-edit-clause-meter_refused c =
    let only = cut (goal.at.returns-in_err-edit-clause-meter_refused c).After-prepare_splice in
    λ refused. c.in_err-edit.ensures.meter_refused (λ none. refused (only ∙ none))

pub prepare_splice-requires-clause-asked : goal.prepare_splice-requires-clause-asked
prepare_splice-requires-clause-asked c =
    record {
      same = refl;
      order = omega (arith, c.if-i-j.false);
      within = omega (arith, whole-scalars c.args.pieces.now.items c.args.tail.now c.whole_sum.ensures, c.if-j-whole_sum.false);
    }

pub keeps_text-requires-clause-ends : goal.keeps_text-requires-clause-ends
keeps_text-requires-clause-ends c =
    let ready = c.in_ok-edit.ensures.ready in
    same-ends ready.decoder c.in_ok-edit.edit.tail c.args.tail.now (ready.kept.tail_is ready.decoder ready.chosen)
    (c.requires.tail_is ready.decoder ready.chosen)

pub keeps_text-requires-clause-within : goal.keeps_text-requires-clause-within
keeps_text-requires-clause-within c =
    omega (arith, whole-scalars c.args.pieces.now.items c.args.tail.now c.whole_sum.ensures, c.if-j-whole_sum.false)

-- what was compared is what is asked
compared : (c : After-keeps_text)
    → c.keeps_text.result ≡ is_kept (document c.args.indexes.now c.args.setting (bytes_of c.args.pieces.now.items)) c.args.at c.args.del
    c.args.ins.now c.args.i c.args.j (chars c.args.text.now)
compared c =
    kept-answer c.args.i c.args.j c.keeps_text.result (chars c.args.text.now) c.requires c.in_ok-edit.ensures.ready c.keeps_text.ensures

pub returns-then-not-keeps_text-clause-faults : goal.returns-then-not-keeps_text-clause-faults
returns-then-not-keeps_text-clause-faults c =
    let x = goal.at.returns-then-not-keeps_text-clause-faults c in
    (cut x.After-prepare_splice ∙ c.in_ok-edit.ensures.faults, sym (compared x.After-keeps_text) ∙ c.if-not-keeps_text.true)

pub returns-then-not-keeps_text-clause-meter_refused : goal.returns-then-not-keeps_text-clause-meter_refused
returns-then-not-keeps_text-clause-meter_refused c =
    let only = cut (goal.at.returns-then-not-keeps_text-clause-meter_refused c).After-prepare_splice in
    λ refused. c.in_ok-edit.ensures.meter_refused (λ none. refused (only ∙ none))

pub returns-clause-faults : goal.returns-clause-faults
returns-clause-faults c =
    let x = goal.at.returns-clause-faults c in
    (cut x.After-prepare_splice ∙ c.in_ok-edit.ensures.faults, sym (compared x.After-keeps_text) ∙ c.if-not-keeps_text.false)

pub returns-clause-meter_refused : goal.returns-clause-meter_refused
returns-clause-meter_refused c =
    let only = cut (goal.at.returns-clause-meter_refused c).After-prepare_splice in
    λ refused. c.in_ok-edit.ensures.meter_refused (λ none. refused (only ∙ none))
