use Rattle.std.proofs.lemmas.Result.{err_from_is_err_and}
use Rattle.piece_rope.proofs.Prelude.{ap, sym, ◌∙◌, ◌≤◌, ℕ, ◌+◌, ◌*◌, length, arith, bytes_of, document, edited, document_limit, spliced, Resyncs, longest}
use Rattle.piece_rope.proofs.Keeping.{join-kept, join-rope, kept-rope, exchanged-bytes}
use Rattle.piece_rope.proofs.{Chaining.laws_of, KeptAnswering.cut-causes, Preparing.metered-cut}
use Rattle.piece_rope.proofs.{Stopping.begins-another, Stopping.faults-behind, Stopping.stops-behind, splice.prepare_splice.Goals.After-prepare}
use Rattle.piece_rope.proofs.splice.prepare_splice.Goals as goal

metered : (c : After-prepare) (m : ℕ)
    → Resyncs (document c.args.indexes.now c.args.setting (bytes_of c.args.pieces.now.items)) c.args.at c.args.del c.args.ins.now m
    → c.prepare.new.meter ≤ c.args.meter.now + (length c.args.ins.now + m + 4 * longest)
metered c =
    metered-cut (document c.args.indexes.now c.args.setting (bytes_of c.args.pieces.now.items)) c.in_ok-decoder.decoder c.args.at
    c.args.del c.in_ok-at.at c.in_ok-at.to c.args.meter.now
    c.prepare.new.meter c.args.ins.now c.under.result c.in_ok-decoder.ensures.ok_part c.under.ensures.behind c.in_ok-at.ensures.within
    c.in_ok-at.ensures.ok.0 c.in_ok-at.ensures.ok.1 c.prepare.ensures.meter

pub returns-in_err-edit-clause-meter_most : goal.returns-in_err-edit-clause-meter_most
returns-in_err-edit-clause-meter_most c = metered (goal.at.returns-in_err-edit-clause-meter_most c).After-prepare

pub returns-clause-meter_most : goal.returns-clause-meter_most
returns-clause-meter_most c = metered (goal.at.returns-clause-meter_most c).After-prepare

pub returns-in_err-at-clause-faults : goal.returns-in_err-at-clause-faults
returns-in_err-at-clause-faults c =
    let e = err_from_is_err_and c.from_residual.result c.from_residual.ensures.1 in
    rw (e.1, e.2) (faults-behind _ _ _ c.in_err-at.ensures.faults (cut-causes (bytes_of c.args.pieces.now.items) c.args.at c.args.del c.args.ins.now))

pub prepare-requires-clause-few : goal.prepare-requires-clause-few
prepare-requires-clause-few c = (join-kept c.requires.kept).few

-- what was decoded isn't what is wanted, so that the whole text isn't
pub returns-in_err-edit-clause-faults : goal.returns-in_err-edit-clause-faults
returns-in_err-edit-clause-faults c =
    let all = laws_of c.in_ok-decoder.decoder c.law_decoder.ensures in
    let old = c.args.pieces.now.items in
    let bytes = exchanged-bytes (bytes_of old) c.args.ins.now c.args.at c.args.del c.in_ok-at.at c.in_ok-at.to c.in_ok-at.ensures.ok.0
    c.in_ok-at.ensures.ok.1 in
    let scratch = rw c.in_ok-decoder.ensures.ok_part at c.under.ensures.decode in
    let e = err_from_is_err_and c.from_residual-in_err-edit.result c.from_residual-in_err-edit.ensures.1 in
    rw (e.1, e.2) (stops-behind _ _ _ _ c.in_ok-at.ensures.faults
    (λ begins. begins-another all.laws all.items c.args.indexes.now c.args.setting
    (spliced (bytes_of old) c.args.at c.args.del c.args.ins.now) c.args.change (scratch _) (rw bytes at begins)) c.in_err-edit.ensures.stops)

pub returns-clause-ready : goal.returns-clause-ready
returns-clause-ready c =
    let d = c.in_ok-decoder.decoder in
    let all = laws_of d c.law_decoder.ensures in
    let old = c.args.pieces.now.items in
    let edit = c.in_ok-edit.edit in
    let new = edited old edit in
    let chosen = sym c.under.ensures.value ∙ c.in_ok-decoder.ensures.ok_part in
    let bytes = c.in_ok-edit.ensures.bytes
    ∙ exchanged-bytes (bytes_of old) c.args.ins.now c.args.at c.args.del c.in_ok-at.at c.in_ok-at.to c.in_ok-at.ensures.ok.0 c.in_ok-at.ensures.ok.1 in
    let within : length (bytes_of new) ≤ document_limit = omega (arith, ap length bytes, c.in_ok-at.ensures.small) in
    let old_joins = join-rope all.laws (c.requires.kept.rope d chosen) c.requires.kept.within in
    let new_joins = join-rope all.laws c.in_ok-edit.ensures.rope within in
    let scratch = rw c.in_ok-decoder.ensures.ok_part at c.under.ensures.decode in
    record {
      prepared = record {
        order = c.in_ok-edit.ensures.order;
        within = c.in_ok-edit.ensures.within;
        few_old = old_joins.few;
        few = new_joins.few;
        same = all.laws.same;
        exact = all.laws.exact;
      };
      renewals = c.in_ok-edit.ensures.kept;
      old = old_joins;
      new = new_joins;
      bytes = bytes;
      kept = kept-rope all chosen c.requires.kept.can within c.in_ok-edit.ensures.rope c.in_ok-edit.ensures.tail scratch;
      decoder = d;
      chosen = chosen;
    }
