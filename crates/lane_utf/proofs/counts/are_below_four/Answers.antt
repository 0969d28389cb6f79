use Rattle.std.proofs.Common.{◌≡◌, ◌+◌, ◌-◌, ◌∙◌, ap, arith, drop, false, get_or, nat_lt, subst, sym, take, ltb-true, ltb-false}
use Rattle.std.proofs.lemmas.{Bool.eqb-true, Simd.get_or-chunk, Simd.length-chunk}
use Rattle.lane_utf.{specs.Weights.begins_four, proofs.Measures.below_greater}
use Rattle.lemmas.proofs.Bools.{by_test}
use Rattle.lane_utf.proofs.counts.are_below_four.Goals as goal

pub returns : goal.returns
returns c all k from to =
    let bytes = c.args.bytes.now in
    let at = c.args.at in
    let first = take 64 (drop at bytes) in
    let second = take 64 (drop (at + 64) bytes) in
    let none : c.fours.result ≡ 0 = eqb-true c.fours.result 0 all in
    let both = below_greater first second (length-chunk at 64 bytes (omega (arith, c.requires))
    ∙ sym (length-chunk (at + 64) 64 bytes (omega (arith, c.requires)))) (sym c.fours.ensures ∙ none) in
    by_test (nat_lt k (at + 64))
    (λ t. let here = get_or-chunk at 64 bytes (k - at) 0 (omega (arith, ltb-true k (at + 64) t)) in
    let place : at + (k - at) ≡ k = omega arith in
    subst (λ b. begins_four b ≡ false) (here ∙ ap (λ j. get_or bytes j 0) place) (both (k - at)).0)
    (λ t. let there = get_or-chunk (at + 64) 64 bytes (k - (at + 64)) 0 (omega (arith, ltb-false k (at + 64) t)) in
    let place : at + 64 + (k - (at + 64)) ≡ k = omega (arith, ltb-false k (at + 64) t) in
    subst (λ b. begins_four b ≡ false) (there ∙ ap (λ j. get_or bytes j 0) place) (both (k - (at + 64))).1)
