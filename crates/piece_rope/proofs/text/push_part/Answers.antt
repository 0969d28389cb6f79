use Rattle.piece_rope.proofs.Prelude.{◌≡◌, rules, ap, ◌∙◌, sym, ℕ, List, ◌++◌, take, take_all, drop, arith, string_bytes, chars, chars-append}
use Rattle.piece_rope.proofs.Prelude.{IsUtf8-string_bytes}
use Rattle.piece_rope.proofs.text.push_part.Goals as goal

pub returns-then-most-all-clause-part : goal.returns-then-most-all-clause-part
returns-then-most-all-clause-part c =
    let old = string_bytes c.args.text.now in
    let o = c.args.outcome.now in
    let none : c.args.skip ≡ 0 = omega (arith, c.if-skip-eq0.true) in
    let added : string_bytes c.push_str.new.self ≡ old ++ c.as_str.result.now = search rules in
    let whole : chars c.as_str.result.now ≡ o.text = cc (c.as_str.ensures, c.text.ensures) in
    let count = c.sum-all.result.scalars in
    let all : take count o.text ≡ o.text = take_all count o.text (grind (arith, o.summed.scalars, c.sum-all.ensures)) in
    rw none (ap chars added ∙ chars-append old c.as_str.result.now (IsUtf8-string_bytes c.args.text.now)
    ∙ ap (λ (cs : List ℕ). chars old ++ cs) (whole ∙ sym all))

pub returns-clause-part : goal.returns-clause-part
returns-clause-part c =
    let old = string_bytes c.args.text.now in
    let added : string_bytes c.push_str-2.new.self ≡ old ++ c.part-part.result.now = search rules in
    let part : chars c.part-part.result.now ≡ take c.min-count.result (drop c.args.skip c.args.outcome.now.text) =
    rw c.text-2.ensures at c.part-part.ensures ∙ ap (λ (n : ℕ). take n (drop c.args.skip c.args.outcome.now.text)) (omega arith) in
    ap chars added ∙ chars-append old c.part-part.result.now (IsUtf8-string_bytes c.args.text.now) ∙ ap (λ (cs : List ℕ). chars old ++ cs) part
