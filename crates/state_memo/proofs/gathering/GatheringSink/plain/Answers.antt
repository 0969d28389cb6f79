use Rattle.std.proofs.Common.{◌≡◌, ◌∙◌, ap, arith, subst, sym, ℤ, pos, ◌-ℤ◌, OnOk, fold, rules, to_z, of_z, w16, w64}
use Rattle.decoder_core.specs.Bulk.{plain_to}
use Rattle.state_memo.proofs.Prelude.{chars, ints, to_z-of_z, run_width, with_shown, OutputState, Gathered, with_more, plain_items, plain_items_from}
use Rattle.state_memo.proofs.{CodePoints.fold-plain, Numbers.width-chars}
use Rattle.state_memo.proofs.gathering.GatheringSink.plain.Goals as goal

pub take_part-requires : goal.take_part-requires
take_part-requires g c =
    let end : to_z w64 (of_z w64 c.args.end) ≡ c.args.end = to_z-of_z {w = w64} c.ranges.end in
    let from16 : to_z w16 (of_z w16 c.in-Some.from) ≡ c.in-Some.from = search rules in
    let end16 : to_z w16 (of_z w16 c.in-Some.end) ≡ c.in-Some.end = search rules in
    record {
      count = c.count_of-count.ensures;
      len = width-chars c.args.text.now c.utf8.text;
      end = omega (arith, ints, from16, end16, end, c.in-Some.ensures.end, c.in-Some.ensures.from, c.requires);
    }

pub returns-clause-ok : goal.returns-clause-ok
returns-clause-ok g c =
    let text = chars c.args.text.now in
    let s = c.args.stride in
    let end : to_z w64 (of_z w64 c.args.end) ≡ c.args.end = to_z-of_z {w = w64} c.ranges.end in
    let from16 : to_z w16 (of_z w16 c.in-Some.from) ≡ c.in-Some.from = search rules in
    let from : to_z w16 (of_z w16 c.in-Some.from) ≡ c.args.end -ℤ pos (run_width s text) =
    omega (arith, ints, from16, end, c.in-Some.ensures.from, c.requires) in
    let items : with_more c.args.self.now text (plain_items_from s (to_z w16 (of_z w16 c.in-Some.from)) c.output_state-output.result text)
    ≡ fold (with_shown g.S.Outputs.output_at) c.args.self.now (plain_to s c.args.end c.args.after text) =
    ap (λ (z : ℤ). with_more c.args.self.now text (plain_items_from s z c.output_state-output.result text)) from
    ∙ ap (λ (o : OutputState). with_more c.args.self.now text (plain_items s c.args.end o text)) c.output_state-output.ensures
    ∙ sym (fold-plain g.S.Outputs.output_at s (c.args.end -ℤ pos (run_width s text)) c.args.after text c.args.self.now) in
    subst (λ (h : Gathered). OnOk c.take_part.result (c.take_part.new.self ≡ h)) items c.take_part.ensures.ok
