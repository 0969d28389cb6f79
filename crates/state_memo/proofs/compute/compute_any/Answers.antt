use Rattle.std.proofs.Common.{◌≡◌, refl, sym, length, rules}
use Rattle.state_memo.proofs.Prelude.{IfOk-weaker, shown_from, any, no_item, contents_of}
use Rattle.state_memo.proofs.Gathered.{computed, done, gathered-is}
use Rattle.state_memo.proofs.compute.compute_any.Goals as goal

pub finish-requires : goal.finish-requires
finish-requires c =
    let shown = shown_from (any c.args.decoder.now) 0 c.args.entry c.as_slice-slice.result.now in
    let ok = c.in_ok-gathering in
    done (length c.as_slice-slice.result.now) shown ok.gathering (c.law_few_items.ensures.shown 0 c.args.entry c.as_slice-slice.result.now)
    (gathered-is shown no_item ok.gathering refl ok.ensures.items)

pub returns-clause-outcome : goal.returns-clause-outcome
returns-clause-outcome c =
    let shown = shown_from (any c.args.decoder.now) 0 c.args.entry c.as_slice-slice.result.now in
    let ok = c.in_ok-gathering in
    let same : c.as_slice-slice.result.now ≡ c.args.bytes.now.value.items = search rules in
    rw (sym same)
    (IfOk-weaker c.finish.result _ _
    (λ o e. computed c.args.decoder.now c.args.entry ok.exit c.as_slice-slice.result.now ok.gathering (contents_of o)
    (gathered-is shown no_item ok.gathering refl ok.ensures.items) ok.ensures.exit e)
    c.finish.ensures)
