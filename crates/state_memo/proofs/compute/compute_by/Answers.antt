use Rattle.std.proofs.Common.{◌≡◌, ◌<◌, ap, arith, refl, rules, subst, sym, ◌∙◌, length, Result, Ok, Err, OnOk}
use Rattle.state_memo.{specs.Outcome.contents_of, specs.Outcome.outcome_of, proofs.Prelude.IfOk-weaker, proofs.Prelude.AnyState, specs.Outcome.contents_by}
use Rattle.state_memo.proofs.Lifted.{arm-done, arm-outcome, name_by, named-as, named-lifted, named-outputs}
use Rattle.state_memo.{specs.Plain.own_gathered, proofs.PlainTexts.own-shown, proofs.PlainTexts.own-stays}
use Rattle.state_memo.proofs.Prelude.{IsDone, OutputState, chars}
use Rattle.state_memo.proofs.compute.compute_by.Goals as goal

whatever : {A E P : Type 0} (r : Result A E) → P → OnOk r P
whatever (Ok x) p = p
whatever (Err e) p = tt

pub finish-requires : goal.finish-requires
finish-requires g c =
    let ok = c.in_ok-gathering in
    let by = name_by c.requires.among in
    arm-done c.args.decoder.now by _ _ (c.law_among.ensures.feeds by (named-lifted c.requires.among)) (named-outputs c.requires.among)
    c.args.state c.as_slice-slice.result.now ok.gathering ok.ensures.items
    (c.law_few_items.ensures.shown 0 (by c.args.state) c.as_slice-slice.result.now)

pub returns-clause-outcome : goal.returns-clause-outcome
returns-clause-outcome g c = λ entry named.
    let ok = c.in_ok-gathering in
    let among = c.requires.among in
    let d = c.args.decoder.now in
    let bytes = c.as_slice-slice.result.now in
    let same : bytes ≡ c.args.bytes.now.value.items = search rules in
    rw (sym same) (IfOk-weaker c.finish.result _ _
    (λ o e.
    subst (λ (s : AnyState). contents_of o ≡ outcome_of d s bytes) (named-as among c.args.state entry named)
    (arm-outcome d (name_by among) _ _ (c.law_among.ensures.feeds (name_by among) (named-lifted among)) (named-outputs among) c.args.state
    bytes ok.gathering ok.ensures.items ok.exit ok.ensures.exit (contents_of o)
    (e ∙ ap (λ (x : AnyState). contents_by (length bytes) ok.gathering x) (sym (named-as among ok.exit c.name-2.result c.name-2.ensures)))))
    c.finish.ensures)

pub own_outcome-requires-clause-done : goal.own_outcome-requires-clause-done
own_outcome-requires-clause-done g c =
    let among = c.requires.among in
    let by = name_by among in
    let bytes = c.args.bytes.now.value.items in
    let same : c.as_slice-slice.result.now ≡ bytes = search rules in
    let own = rw same at c.in-Some.ensures.own in
    let here = own_gathered (g.S.Outputs.output_at c.args.state) (chars bytes) in
    subst (λ (o : OutputState). IsDone (length bytes) (own_gathered o (chars bytes))) (sym c.output_state-output.ensures)
    (arm-done c.args.decoder.now by _ _ (c.law_among.ensures.feeds by (named-lifted among)) (named-outputs among) c.args.state bytes here
    (own-shown (g.D.Decoder.table c.args.own.now) g.S.Outputs.output_at c.args.state bytes bytes refl own)
    (c.law_few_items.ensures.shown 0 (by c.args.state) bytes))

pub returns-in-Some-clause-outcome : goal.returns-in-Some-clause-outcome
returns-in-Some-clause-outcome g c = λ entry named.
    let among = c.requires.among in
    let by = name_by among in
    let d = c.args.decoder.now in
    let bytes = c.args.bytes.now.value.items in
    let table = g.D.Decoder.table c.args.own.now in
    let same : c.as_slice-slice.result.now ≡ bytes = search rules in
    let own = rw same at c.in-Some.ensures.own in
    let here = own_gathered (g.S.Outputs.output_at c.args.state) (chars bytes) in
    IfOk-weaker c.own_outcome.result _ _
    (λ o e.
    subst (λ (s : AnyState). contents_of o ≡ outcome_of d s bytes) (named-as among c.args.state entry named)
    (arm-outcome d by _ _ (c.law_among.ensures.feeds by (named-lifted among)) (named-outputs among) c.args.state bytes here
    (own-shown table g.S.Outputs.output_at c.args.state bytes bytes refl own) c.args.state
    (own-stays table c.args.state bytes own) (contents_of o)
    (e ∙ ap (λ (out : OutputState). contents_by (length bytes) (own_gathered out (chars bytes)) c.name.result) c.output_state-output.ensures
    ∙ ap (λ (x : AnyState). contents_by (length bytes) here x) (sym (named-as among c.args.state c.name.result c.name.ensures)))))
    c.own_outcome.ensures

pub returns-in-Some-clause-meter : goal.returns-in-Some-clause-meter
returns-in-Some-clause-meter g c =
    let few : c.args.meter.now < 18446744073709551616 = omega (arith, c.decoded-decoded.ensures, c.decoded-decoded.type_inv) in
    let same : c.as_slice-slice.result.now ≡ c.args.bytes.now.value.items = search rules in
    let counted = rw same at c.in-Some.ensures.counted in
    record { all = whatever c.own_outcome.result counted; least = omega (arith, counted, few); most = omega (arith, counted) }
