use Rattle.std.proofs.Common.{◌≡◌, ◌+◌, ◌<◌, ◌≤◌, ◌∷◌, [], ◌++◌, drop, length, get_or, sym, ap, ◌∙◌, arith, append_assoc, length-append}
use Rattle.std.proofs.lemmas.{List.drop_more, Int.Digits.digits_push, Int.Digits.digits_value_push, Fmt.decimal_digit}
use Rattle.line_protocol.proofs.FlatTexts.{byte_here, decimal_here, digit_here, first_digit}
use Rattle.line_protocol.proofs.request.flat.lexemes.whole_number.Goals as goal

pub returns-then-line-from-eq48 : goal.returns-then-line-from-eq48
returns-then-line-from-eq48 c =
    let d = c.args.line.now in
    let i = c.args.from in (
      byte_here d i 48 (omega arith) c.if-line-from-eq48.true ∙ ap (λ xs. xs ++ drop (i + 1) d) (sym (decimal_digit 0 (omega arith))),
      omega arith,
    )

pub digits-preserved : goal.digits-preserved
digits-preserved c =
    let d = c.args.line.now in
    let at = c.digits.at in
    let l = c.digits.invariant in
    let ds = l.0 in
    let x = get_or d at 0 in
    let range : (48 ≤ x) × (x ≤ 57) = grind arith in
    let digit = digit_here x range.0 range.1 in (
      ds ++ x ∷ [],
      digits_push 10 ds x l.1 (omega (arith, digit, range.1)),
      omega (arith, l.2, digits_value_push 10 ds x, digit, c.from.ensures, range.0),
      l.3 ∙ ap (λ xs. ds ++ xs) (drop_more d at 0 c.digits-test.true) ∙ sym (append_assoc ds (x ∷ []) (drop (at + 1) d)),
      omega (arith, l.4, length-append ds (x ∷ [])),
      omega arith,
      omega (arith, l.6, c.from.ensures, range.1, c.if-number-lt-SHORT.true),
    )

pub returns : goal.returns
returns c =
    let d = c.args.line.now in
    let i = c.args.from in
    let l = c.digits.invariant in
    let ds = l.0 in
    let some : 0 < length ds = omega (arith, l.4) in
    let other : get_or ds 0 0 ≡ 48 → ⊥ = λ zero. c.if-line-from-eq48.false (sym (first_digit d ds _ i l.3 some) ∙ zero) in (
      decimal_here d ds i c.digits.at c.digits.number l.1 l.2 l.3 some (λ zero. absurd (other zero)) (omega (arith, l.6)),
      l.5,
    )
