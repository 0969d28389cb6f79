use Rattle.std.proofs.Common.{rules, ◌++◌, drop, decimal, refl, ap, ◌∙◌}
use Rattle.json.specs.Token.{Token}
use Rattle.line_protocol.proofs.FlatTokens.{one_token}
use Rattle.line_protocol.proofs.request.flat.read.value.Goals as goal

pub returns-in-Some : goal.returns-in-Some
returns-in-Some c =
    let gap = c.gap_end.ensures.gap in (
      (
        one_token (drop c.args.from c.args.text.now) gap.0 _ (Token.string c.in-Some.found.now) gap.1
            (rw c.as_bytes-line.ensures.value at gap.2 ∙ ap (λ l. gap.0 ++ l) c.in-Some.ensures.0) refl,
        tt,
      ),
      c.in-Some.ensures.1,
    )

pub returns-in-Some-whole : goal.returns-in-Some-whole
returns-in-Some-whole c =
    let w = c.in-Some-whole.ensures.0 in
    ((one_token (drop c.args.from c.args.text.now) w.0 _ (Token.number (decimal c.in-Some-whole.number)) w.1 w.2 refl, search rules), c.in-Some-whole.ensures.1)
