use Rattle.std.proofs.Common.{arith, ◌≡◌, ◌++◌, ◌∙◌, ap, sym, refl, ℕ, List, [], ◌∷◌, append-nil, ◌-◌, fold, w64}
use Rattle.decoder_core.proofs.Prelude.{chars, chars_rest, err_from_is_err_and, IsUtf8-past_char, chars_of_empty, run_width, plain_to, collect_one, seen_of}
use Rattle.decoder_core.proofs.{Prelude.Shown, ItemWidths.width-first, ItemWidths.next-item, ItemWidths.next-whole, ItemWidths.next-seen}
use Rattle.std.proofs.Math.Facts.{to_z-of_z}
use Rattle.decoder_core.proofs.collector.CollectorSink.plain.Goals as goal

pub rest-init : goal.rest-init
rest-init g c =
    let whole = c.chars-rest.ensures.rest in
    rw whole ([], c.utf8.text, c.requires, refl, refl)

pub overflow_sub-left : goal.overflow_sub-left
overflow_sub-left g c =
    let held = c.rest.invariant in
    let first = width-first c.args.stride _ _ c.in-Some.c held.1 c.in-Some.ensures.steps.0 in
    grind (arith, held.2, first, c.width_of-left.ensures)

pub rest-preserved : goal.rest-preserved
rest-preserved g c =
    let held = c.rest.invariant in
    let parts = c.in-Some.ensures.steps.0 in
    let first = width-first c.args.stride _ _ c.in-Some.c held.1 parts in
    let rest = chars_rest c.next.new.self in
    let left : c.rest.left - c.width_of-left.result ≡ run_width c.args.stride (chars rest) = Prim.omega (arith, held.2, first, c.width_of-left.ensures) in
    let end = to_z-of_z {w = w64} c.ranges.end in
    rw end (
      held.0 ++ next-item c.args.stride c.args.end c.args._after c.in-Some.c (chars rest) ∷ [],
      IsUtf8-past_char _ _ c.in-Some.c held.1 parts,
      left,
      next-whole c.args.stride c.args.end c.args._after _ rest c.in-Some.c held.0 _ held.1 parts (rw end at held.3),
      next-seen c.args.stride c.args.end c.args._after rest c.in-Some.c c.from.result _ (seen_of c.args.self.now) _ _ held.0 held.4 left
          c.from.ensures (rw end at c.in_ok-collect.ensures.ok),
    )

pub returns-in_err-collect-clause-err : goal.returns-in_err-collect-clause-err
returns-in_err-collect-clause-err g c =
    let refused = err_from_is_err_and c.from_residual.result c.from_residual.ensures.1 in
    rw refused.1 (c.rest.invariant.0, _, rw (to_z-of_z {w = w64} c.ranges.end) at c.rest.invariant.3, c.in_err-collect.ensures.err ∙ c.rest.invariant.4)

pub returns-clause-ok : goal.returns-clause-ok
returns-clause-ok g c =
    let held = c.rest.invariant in
    let none = chars_of_empty _ c.in_default.ensures.steps.0.0 in
    let whole = rw (to_z-of_z {w = w64} c.ranges.end) at held.3 in
    held.4
    ∙ ap (λ (shown : List (Shown _)). fold collect_one (seen_of c.args.self.now) shown)
    (sym (whole ∙ ap (λ (cs : List ℕ). held.0 ++ plain_to c.args.stride c.args.end c.args._after cs) none ∙ append-nil held.0))
