use Rattle.std.proofs.Common.{◌+◌, ◌-◌, ◌++◌, drop, length, get_or, sym, ap, ◌∙◌, arith}
use Rattle.std.{proofs.lemmas.Str.IsCharBoundary-after_ascii}
use Rattle.json.specs.{Print.quoted}
use Rattle.line_protocol.proofs.FlatTexts.{quoted_here}
use Rattle.line_protocol.proofs.request.flat.lexemes.quoted_text.Goals as goal

pub range-requires-clause-start_boundary : goal.range-requires-clause-start_boundary
range-requires-clause-start_boundary c some =
    let same = c.as_bytes-line.ensures.value in
    IsCharBoundary-after_ascii c.args.text.now c.args.from c.utf8.text (omega (arith, ap length same, c.if-from-line.false))
    (omega (arith, ap (λ t. get_or t c.args.from 0) same, c.if-line-from-ne34.false))

pub returns : goal.returns
returns c =
    let d = c.args.text.now in
    let i = c.args.from in
    let same = c.as_bytes-line.ensures.value in
    let stop = c.plain_end-end.result in (
      quoted_here d i stop (omega (arith, ap length same, c.if-from-line.false)) (omega (arith, ap (λ t. get_or t i 0) same, c.if-line-from-ne34.false))
          (rw (← same) c.plain_end-end.ensures) (omega (arith, ap length same, c.if-end-line.false))
          (omega (arith, ap (λ t. get_or t stop 0) same, c.if-line-end-ne34.false)) ∙ ap (λ s. quoted s ++ drop (stop + 1) d) (sym c.range.ensures.value),
      omega (arith, ap length same, c.if-end-line.false),
    )
