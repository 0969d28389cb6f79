use Rattle.piece_rope.proofs.Prelude.{◌≡◌, ap, sym, ◌∙◌, subst, ◌++◌, take, drop, arith, refl, err_from_is_err_and, any_start, AnyState, Chain, bytes_of}
use Rattle.piece_rope.proofs.Prelude.{exchanged, renewed, state_after, texts_of, IsRope, Metered, length, Begins, IsUnlike, Strays}
use Rattle.piece_rope.proofs.Preparing.{metered, metered-early, behind-middle, edited-bytes, edited-rope}
use Rattle.piece_rope.proofs.{Chaining.laws_of, Chaining.chain-drop, Chaining.state-drop, Remembering.ending-exit, Remembering.ending-own}
use Rattle.piece_rope.proofs.{Stopping.begins-behind, Stopping.begins-made, Stopping.stops-if, edit.prepare.Goals.After-renewals_from}
use Rattle.piece_rope.proofs.edit.prepare.Goals as goal

-- the meter, after the later pieces were renewed
metered-behind : (c : After-renewals_from)
    → Metered c.args.decoder.now (bytes_of c.args.pieces.now.items) c.args.at c.args.to c.args.ins.now c.args.meter.now c.renewals_from.new.meter
metered-behind c =
    let laws = (laws_of _ c.requires.lawful).laws in
    let spans = c.window_of-window.ensures.spans in
    let own = c.deref.ensures.value ∙ c.in_ok-middle.ensures in
    metered laws c.args.ins.now spans own c.args.meter.now c.fresh_pieces.new.meter c.renewals_from.new.meter
    c.requires.rope.chain c.requires.rope.sizes.small
    (behind-middle laws c.args.ins.now spans own c.entry_of-entry.ensures c.in_ok-fresh.ensures.exit)
    c.in_ok-fresh.ensures.meter_most c.renewals_from.ensures.meter

pub returns-in_err-middle-clause-meter : goal.returns-in_err-middle-clause-meter
returns-in_err-middle-clause-meter c =
    metered-early (laws_of _ c.requires.lawful).laws c.args.ins.now c.window_of-window.ensures.spans refl c.args.meter.now c.args.meter.now (omega arith)

pub returns-in_err-fresh-clause-meter : goal.returns-in_err-fresh-clause-meter
returns-in_err-fresh-clause-meter c =
    metered-early (laws_of _ c.requires.lawful).laws c.args.ins.now c.window_of-window.ensures.spans c.in_ok-middle.ensures
    c.args.meter.now c.fresh_pieces.new.meter (omega (arith, c.in_err-fresh.ensures.meter_most, ap length c.deref.ensures.value))

pub returns-in_err-ahead-clause-meter : goal.returns-in_err-ahead-clause-meter
returns-in_err-ahead-clause-meter c =
    metered-early (laws_of _ c.requires.lawful).laws c.args.ins.now c.window_of-window.ensures.spans
    (c.deref.ensures.value ∙ c.in_ok-middle.ensures) c.args.meter.now c.fresh_pieces.new.meter (omega (arith, c.in_ok-fresh.ensures.meter_most))

-- the new pieces don't decode to what is wanted
pub returns-in_err-ahead-clause-stops : goal.returns-in_err-ahead-clause-stops
returns-in_err-ahead-clause-stops c =
    let d = c.args.decoder.now in
    let ps = c.args.pieces.now.items in
    let made = c.deref-2.result.now in
    let own : bytes_of made ≡ c.deref.result.now = ap bytes_of c.deref-2.ensures.value ∙ c.in_ok-fresh.ensures.bytes in
    let chain : Chain d c.entry_of-entry.result made = rw c.deref-2.ensures.value c.in_ok-fresh.ensures.chain in
    let unlike = IsUnlike c.args.change in
    let e = err_from_is_err_and c.from_residual-in_err-ahead.result c.from_residual-in_err-ahead.ensures.1 in
    rw (e.1, e.2) (stops-if (unlike (texts_of (take c.window_of-window.result.first ps ++ made)))
    (Begins d (any_start d) (exchanged (bytes_of ps) c.args.at c.args.to c.args.ins.now) unlike) _
    (begins-made (laws_of d c.requires.lawful).laws c.args.ins.now c.window_of-window.ensures.spans (c.deref.ensures.value ∙ c.in_ok-middle.ensures)
    made c.requires.rope.chain c.entry_of-entry.ensures own chain unlike) c.in_err-ahead.ensures.stops)

-- nor do those after them
pub returns-in_err-later-clause-stops : goal.returns-in_err-later-clause-stops
returns-in_err-later-clause-stops c =
    let d = c.args.decoder.now in
    let ps = c.args.pieces.now.items in
    let made = c.deref-2.result.now in
    let own : bytes_of made ≡ c.deref.result.now = ap bytes_of c.deref-2.ensures.value ∙ c.in_ok-fresh.ensures.bytes in
    let chain : Chain d c.entry_of-entry.result made = rw c.deref-2.ensures.value c.in_ok-fresh.ensures.chain in
    let ahead = c.in_ok-ahead.ahead in
    let e = err_from_is_err_and c.from_residual-in_err-later.result c.from_residual-in_err-later.ensures.1 in
    rw (e.1, e.2) (stops-if (Begins d c.in_ok-fresh.fresh.exit (bytes_of (drop c.window_of-window.result.last ps)) (Strays ahead))
    (Begins d (any_start d) (exchanged (bytes_of ps) c.args.at c.args.to c.args.ins.now) (IsUnlike c.args.change)) _
    (λ later. begins-behind (laws_of d c.requires.lawful).laws c.args.ins.now c.window_of-window.ensures.spans
    (c.deref.ensures.value ∙ c.in_ok-middle.ensures) made c.requires.rope.chain c.entry_of-entry.ensures own chain
    c.args.change ahead c.in_ok-fresh.ensures.exit later c.in_ok-ahead.ensures.awaits) c.in_err-later.ensures.stops)

pub renewals_from-requires-clause-behind : goal.renewals_from-requires-clause-behind
renewals_from-requires-clause-behind c =
    let laws = (laws_of _ c.requires.lawful).laws in
    let start = any_start c.args.decoder.now in
    let last = c.window_of-window.result.last in
    record {
      from = state_after c.args.decoder.now start (take last c.args.pieces.now.items);
      chain = chain-drop laws start last c.args.pieces.now.items c.requires.rope.chain;
      end_is = c.requires.rope.end_is ∙ state-drop laws start last c.args.pieces.now.items;
    }

pub returns-in_err-later-clause-meter : goal.returns-in_err-later-clause-meter
returns-in_err-later-clause-meter c = metered-behind (goal.at.returns-in_err-later-clause-meter c).After-renewals_from

pub returns-in_err-tail-clause-meter : goal.returns-in_err-tail-clause-meter
returns-in_err-tail-clause-meter c = metered-behind (goal.at.returns-in_err-tail-clause-meter c).After-renewals_from

pub returns-clause-meter : goal.returns-clause-meter
returns-clause-meter c = metered-behind (goal.at.returns-clause-meter c).After-renewals_from

pub returns-clause-rope : goal.returns-clause-rope
returns-clause-rope c =
    let d = c.args.decoder.now in
    let fresh = c.in_ok-fresh in
    let later = c.in_ok-later in
    let w = c.window_of-window.result in
    let made = fresh.fresh.pieces.items in
    let renewals = later.later.renewals.items in
    subst (λ (s : AnyState). IsRope d (take w.first c.args.pieces.now.items ++ (made ++ renewed (drop w.last c.args.pieces.now.items) renewals)) s)
    (sym (ending-exit d later.later.exit c.in_ok-tail.tail c.in_ok-tail.ensures))
    (edited-rope (laws_of d c.requires.lawful).laws c.args.ins.now c.window_of-window.ensures.spans (c.deref.ensures.value ∙ c.in_ok-middle.ensures)
    made renewals c.requires.rope c.window_of-window.ensures.roomy c.requires.order c.requires.within
    c.entry_of-entry.ensures fresh.ensures.bytes fresh.ensures.chain fresh.ensures.exit fresh.ensures.small fresh.ensures.wide
    fresh.ensures.few later.ensures.chain later.ensures.exit)

pub returns-clause-bytes : goal.returns-clause-bytes
returns-clause-bytes c =
    edited-bytes (laws_of _ c.requires.lawful).laws c.args.ins.now c.window_of-window.ensures.spans (c.deref.ensures.value ∙ c.in_ok-middle.ensures)
    c.in_ok-fresh.fresh.pieces.items c.in_ok-later.later.renewals.items c.in_ok-fresh.ensures.bytes

pub returns-clause-tail : goal.returns-clause-tail
returns-clause-tail c = ending-own c.args.decoder.now c.in_ok-later.later.exit c.in_ok-tail.tail c.in_ok-tail.ensures
